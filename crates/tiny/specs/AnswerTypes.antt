-- What is answered for an item, for a string and for the name. Assumes nothing.
use Rattle.std.specs.Prelude.{ℕ, Result}
use Rattle.tiny.specs.declared.ShownItem.{ShownItem}
use Rattle.tiny_layout.specs.Reference.{Reference}
use Rattle.verdict.specs.declared.Refusal.{Refusal}

-- the item of a number
abbrev pub ItemAnswer : Type 0
ItemAnswer = Result ShownItem Refusal

-- the string of a number: where its text lies, or nothing where it is undecodable
abbrev pub StringAnswer : Type 0
StringAnswer = Result Reference Refusal

-- the name: its length
abbrev pub NameAnswer : Type 0
NameAnswer = Result ℕ Refusal
