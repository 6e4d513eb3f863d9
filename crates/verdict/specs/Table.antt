-- A table of rules as the paper prints it: each row has a number, and says at which places its rule is broken. Paper 01: "The lowest number that applies is
-- given; within a number, the smallest place where the rule breaks." The rows stand in the order of their numbers, save where a request of paper 02 gives one
-- another rank. No search is spoken of. Assumes nothing.
use Rattle.std.specs.Prelude.{ℕ, List, [], ◌∷◌, ◌⊎◌, ◌≡◌}
use Rattle.chain.specs.Finds.{Smallest, Nowhere}

-- a row: its number, and where its rule is broken
abbrev pub Row : Type 1
Row = ℕ × (ℕ → Type 0)

-- no rule is broken anywhere
abbrev pub Unbroken : List Row → Type 0
Unbroken [] = Unit {0}
Unbroken (r ∷ rs) = Nowhere r.1 × Unbroken rs

-- the first row whose rule is broken anywhere has number n, and p is the smallest place where it is
abbrev pub FirstBroken : List Row → ℕ → ℕ → Type 0
FirstBroken [] n p = ⊥
FirstBroken (r ∷ rs) n p = ((r.0 ≡ n) × Smallest r.1 p) ⊎ (Nowhere r.1 × FirstBroken rs n p)
