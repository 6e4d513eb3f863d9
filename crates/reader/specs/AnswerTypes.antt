-- What is answered for the list and for an item by its number. Assumes nothing.
use Rattle.std.specs.Prelude.{ℕ, Result}
use Rattle.reader.specs.declared.Item.{Item}
use Rattle.verdict.specs.declared.Refusal.{Refusal}

-- how many entries were filled
abbrev pub ListAnswer : Type 0
ListAnswer = Result ℕ Refusal

-- the item of a number
abbrev pub ItemAnswer : Type 0
ItemAnswer = Result Item Refusal
