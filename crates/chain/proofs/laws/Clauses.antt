-- A clause of a rule: what is looked for, where the clause is broken, and between which places that is. Clauses in ascending order of place that are looked for
-- one after the other find the smallest place where any of them is broken. Assumes nothing.
use Rattle.std.specs.Prelude.{ℕ, ◌≤◌, ◌<◌, Bool, List, [], ◌∷◌, ◌⊎◌, ◌≡◌, refl, None}
use Rattle.std.proofs.Common.{inl, inr, subst, arith}
use Rattle.chain.specs.Finds.{Finds}
use Rattle.chain.specs.First.{or_else, when}
use Rattle.chain.specs.Found.{Found}
use Rattle.chain.proofs.laws.Finds.{finds-both, finds-when}
use Rattle.chain.proofs.laws.Means.{Means, means-under, means-other}

pub record Clause : Type 1 where
  pub found : Found
  pub broken : ℕ → Type 0
  pub finds : Finds broken found
  -- it is broken nowhere before `from`, and nowhere after `upto`
  pub from : ℕ
  pub upto : ℕ
  pub rises : from ≤ upto
  pub within : (z : ℕ) → broken z → (from ≤ z) × (z ≤ upto)

-- ---- one test of one place
abbrev pub test : (P : ℕ → Type 0) {b : Bool} (q : ℕ) → Means b (P q) → Clause
test P {b} q m =
    record {
      found = when b q;
      broken = λ z. (z ≡ q) × P z;
      finds = finds-when (λ z. (z ≡ q) × P z) b q (λ e. (refl, m.0 e)) (λ z h. (h.0, m.1 (subst P h.0 h.1)));
      from = q;
      upto = q;
      rises = omega arith;
      within = λ z h. (omega (arith, h.0), omega (arith, h.0));
    }

-- what f reads there is over a bound
abbrev pub over : (ℕ → ℕ) → ℕ → ℕ → Clause
over f bound q = test (λ z. bound < f z) q (means-under bound (f q))

-- or under one
abbrev pub under : (ℕ → ℕ) → ℕ → ℕ → Clause
under f bound q = test (λ z. f z < bound) q (means-under (f q) bound)

-- or not a number
abbrev pub other : (ℕ → ℕ) → ℕ → ℕ → Clause
other f n q = test (λ z. f z ≡ n → ⊥) q (means-other (f q) n)

-- ---- several clauses
abbrev pub found_in : List Clause → Found
found_in [] = None
found_in (c ∷ cs) = or_else c.found (found_in cs)

abbrev pub AnyOf : List Clause → ℕ → Type 0
AnyOf [] z = ⊥
AnyOf (c ∷ cs) z = c.broken z ⊎ AnyOf cs z

-- each from where the one before it may be broken on, between a and b
abbrev pub Ascending : ℕ → List Clause → ℕ → Type 0
Ascending a [] b = a ≤ b
Ascending a (c ∷ cs) b = (a ≤ c.from) × Ascending c.upto cs b

-- they are broken between a and b
pub any-within : (l : List Clause) (a b : ℕ) → Ascending a l b → (a ≤ b) × ((z : ℕ) → AnyOf l z → (a ≤ z) × (z ≤ b))
any-within [] a b h = (h, λ z x. absurd x)
any-within (c ∷ cs) a b h =
    let w = any-within cs c.upto b h.1 in (
      omega (arith, h.0, c.rises, w.0),
      λ z x.
          elim x [
            | inl y ↦ (omega (arith, h.0, (c.within z y).0), omega (arith, (c.within z y).1, w.0))
            | inr y ↦ (omega (arith, h.0, c.rises, (w.1 z y).0), (w.1 z y).1)
          ],
    )

pub finds-any : (l : List Clause) (a b : ℕ) → Ascending a l b → Finds (AnyOf l) (found_in l)
finds-any [] a b h = λ z x. x
finds-any (c ∷ cs) a b h =
    finds-both c.broken (AnyOf cs) c.found (found_in cs) c.finds (finds-any cs c.upto b h.1)
    (λ y z u v. omega (arith, (c.within y u).1, ((any-within cs c.upto b h.1).1 z v).0))

-- so they are one clause
abbrev pub several : (l : List Clause) (a b : ℕ) → Ascending a l b → Clause
several l a b h =
    record {
      found = found_in l;
      broken = AnyOf l;
      finds = finds-any l a b h;
      from = a;
      upto = b;
      rises = (any-within l a b h).0;
      within = (any-within l a b h).1;
    }
