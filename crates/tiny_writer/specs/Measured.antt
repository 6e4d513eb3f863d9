-- What is measured of a run: how many bytes its items take in an image, or 46 with the number of the first bad one. Assumes nothing.
use Rattle.std.specs.Prelude.{ℕ, Result}
use Rattle.verdict.specs.declared.Refusal.{Refusal}

abbrev pub Measured : Type 0
Measured = Result ℕ Refusal
