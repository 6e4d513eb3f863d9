-- What a search answers: the place found, or nothing. Assumes nothing.
use Rattle.std.specs.Prelude.{ℕ, Option}

abbrev pub Found : Type 0
Found = Option ℕ
