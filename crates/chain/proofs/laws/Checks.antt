-- What joined tests tell; and what checks, and a rule under a mark, tell where they find nothing. Assumes nothing.
use Rattle.std.specs.Prelude.{ℕ, ◌≤◌, Bool, true, false, not, cond, ◌&&◌, ◌||◌, List, [], ◌∷◌, ◌≡◌, refl, eqb, ltb, None}
use Rattle.std.proofs.Common.{sym, ap, subst, ◌∙◌, eqb-true, ltb-false}
use Rattle.std.proofs.lemmas.Bool.{not-false}
use Rattle.chain.specs.All.{All}
use Rattle.chain.specs.First.{checks, when}
use Rattle.chain.specs.Found.{Found}
use Rattle.chain.proofs.laws.First.{or_else-left, or_else-right, when-nothing}

-- a disjunction fails: both its parts do
pub neither : (a b : Bool) → a || b ≡ false → (a ≡ false) × (b ≡ false)
neither true b e = (cc, cc)
neither false b e = (refl, e)

-- a conjunction fails and its first part holds: its second part fails
pub second-fails : (a b : Bool) → a && b ≡ false → a ≡ true → b ≡ false
second-fails a b e h = subst (λ (t : Bool). t && b ≡ false) h e

-- several checks find nothing exactly where none of them finds anything
pub checks-none : (l : List Found) → checks l ≡ None → All (λ f. f ≡ None) l
checks-none [] e = tt
checks-none (f ∷ fs) e = (or_else-left f (checks fs) e, checks-none fs (or_else-right f (checks fs) e))

pub none-checks : (l : List Found) → All (λ f. f ≡ None) l → checks l ≡ None
none-checks [] a = refl
none-checks (f ∷ fs) a = rw a.0 (none-checks fs a.1)

-- a check that a test holds
pub kept-true : (b : Bool) (p : ℕ) → when (not b) p ≡ None → b ≡ true
kept-true b p e = not-false b (when-nothing (not b) p e)

-- that two numbers are equal
pub kept-equal : (a b p : ℕ) → when (not (eqb a b)) p ≡ None → a ≡ b
kept-equal a b p e = eqb-true a b (kept-true (eqb a b) p e)

-- against a number over a bound
pub kept-under : (bound n p : ℕ) → when (ltb bound n) p ≡ None → n ≤ bound
kept-under bound n p e = ltb-false bound n (when-nothing (ltb bound n) p e)

-- a rule under a mark that is set
pub under-mark : (b : Bool) (f : Found) → cond b f None ≡ None → b ≡ true → f ≡ None
under-mark b f e h = subst (λ (t : Bool). cond t f None ≡ None) h e

-- a rule that goes by a mark, and is not broken where the mark is not set: if it is not broken by one mark, it is not by a mark that is set only if that one is
pub mark-weaker : (rule : Bool → Found) → rule false ≡ None → (a b : Bool) → (b ≡ true → a ≡ true) → rule a ≡ None → rule b ≡ None
mark-weaker rule off a true h e = ap rule (sym (h refl)) ∙ e
mark-weaker rule off a false h e = off
