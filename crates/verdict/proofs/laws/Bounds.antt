-- Between which bounds the number and the place of a refusal lie: what holds of each row of the table, where no row before it is broken. Assumes nothing.
use Rattle.std.specs.Prelude.{ℕ, ◌≤◌, Bool, true, ◌&&◌, List, [], ◌∷◌, ◌≡◌, leb}
use Rattle.std.proofs.Math.Bool.{and-eq-true_iff}
use Rattle.std.proofs.Common.{inl, inr, subst, leb-true}
use Rattle.chain.specs.Finds.{Smallest, Nowhere}
use Rattle.verdict.specs.Table.{Row, FirstBroken}

-- whether the number of each row is from a up to b
abbrev pub numbered_from : ℕ → ℕ → List Row → Bool
numbered_from a b [] = true
numbered_from a b (r ∷ rs) = leb a r.0 && leb r.0 b && numbered_from a b rs

-- the smallest place where each row is broken is at most z, where the rows before it are broken nowhere
abbrev pub Bounded : ℕ → List Row → Type 0
Bounded z [] = Unit {0}
Bounded z (r ∷ rs) = ((p : ℕ) → Smallest r.1 p → p ≤ z) × (Nowhere r.1 → Bounded z rs)

-- a row that is broken nowhere after z, and the later ones
pub row : {B : ℕ → Type 0} {A : Type 0} {z : ℕ} → ((p : ℕ) → B p → p ≤ z) → (Nowhere B → A) → ((p : ℕ) → Smallest B p → p ≤ z) × (Nowhere B → A)
row most more = (λ p b. most p b.0, more)

-- so the first broken row has a number from a up to b, and a place up to z
pub first-within : (a b z : ℕ) (table : List Row) → numbered_from a b table ≡ true → Bounded z table → (n p : ℕ) → FirstBroken table n p
    → (a ≤ n) × (n ≤ b) × (p ≤ z)
first-within a b z [] t h n p f = absurd f
first-within a b z (r ∷ rs) t h n p f =
    let u = (and-eq-true_iff (leb a r.0 && leb r.0 b) (numbered_from a b rs)).0 t in
    let v = (and-eq-true_iff (leb a r.0) (leb r.0 b)).0 u.0 in
    elim f [
      | inl g ↦ subst (λ (m : ℕ). (a ≤ m) × (m ≤ b) × (p ≤ z)) g.0 (leb-true a r.0 v.0, leb-true r.0 b v.1, h.0 p g.1)
      | inr g ↦ first-within a b z rs u.1 (h.1 g.0) n p g.1
    ]
