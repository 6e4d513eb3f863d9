-- A number that is none of those of a table has no mark in it: by induction over the rows. Assumes nothing.
use Prim.Native.Nat.{ℕ}
use mathlib.Core.Path.{◌≡◌, refl}
use mathlib.Core.Bool.{false}
use mathlib.Core.List.{List, [], ◌∷◌}
use borrow.Author.Tests.{ne_eqb}
use Rattle.kinds.specs.Kinds.{Row, marked}

-- x differs from the number of each row, in the form in which the last arm of a `match` has it: each fact beside what was known before it
abbrev pub Absent : Type 0 → ℕ → List Row → Type 0
Absent known x [] = known
Absent known x (row ∷ rows) = Absent (known × (x ≡ row.0 → ⊥)) x rows

before : {known : Type 0} (x : ℕ) (rows : List Row) → Absent known x rows → known
before x [] h = h
before x (row ∷ rows) h = (before x rows h).0

unmarked-after : (known : Type 0) (x : ℕ) (rows : List Row) → Absent known x rows → marked x rows ≡ false
unfolding marked
unmarked-after known x [] h = refl
unmarked-after known x (row ∷ rows) h =
    rw (ne_eqb x row.0 (before x rows h).1) (unmarked-after (known × (x ≡ row.0 → ⊥)) x rows h)

pub unmarked : (x : ℕ) (rows : List Row) → Absent (Unit {0}) x rows → marked x rows ≡ false
unmarked = unmarked-after (Unit {0})
