-- What a judge and a writer answer, in every format. Assumes nothing.
use Rattle.std.specs.Prelude.{ℕ, Result}
use Rattle.verdict.specs.declared.Refusal.{Refusal}

-- the count of items, or a refusal
abbrev pub Judged : Type 0
Judged = Result ℕ Refusal

-- the length of the image that a writer has written, or a refusal
abbrev pub WriteAnswer : Type 0
WriteAnswer = Result ℕ Refusal
