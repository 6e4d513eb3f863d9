-- The laws of the first place at which a rule is broken, over any list of places: when nothing is found, where what is found comes from,
-- and two rules beside each other. Assumes nothing.
use Rattle.std.specs.Prelude.{ℕ, Bool, true, false, List, [], ◌∷◌, ◌++◌, ◌≡◌, refl, Some, None}
use Rattle.std.proofs.Common.{sym, ap, subst, ◌∙◌, arith}
use Rattle.chain.specs.All.{All}
use Rattle.chain.specs.First.{or_else, when, first}
use Rattle.chain.specs.Found.{Found}
use Rattle.chain.proofs.laws.All.{all-split}

-- a place is not nothing
pub at-nothing : {p : ℕ} → Some p ≡ None → ⊥
at-nothing e = let z : ◌≡◌ {A = ℕ} 0 1 = cc in omega arith

-- ---- what one answer tells
pub when-test : (b : Bool) (q p : ℕ) → when b q ≡ Some p → b ≡ true
when-test true q p e = refl
when-test false q p e = cc

pub when-place : (b : Bool) (q p : ℕ) → when b q ≡ Some p → q ≡ p
when-place true q p e = cc
when-place false q p e = cc

pub when-nothing : (b : Bool) (q : ℕ) → when b q ≡ None → b ≡ false
when-nothing true q e = cc
when-nothing false q e = refl

pub or_else-left : (f g : Found) → or_else f g ≡ None → f ≡ None
or_else-left (Some p) g e = e
or_else-left None g e = refl

pub or_else-right : (f g : Found) → or_else f g ≡ None → g ≡ None
or_else-right (Some p) g e = cc
or_else-right None g e = e

-- the first of three answers, however they are grouped
pub or_else-assoc : (f g h : Found) → or_else (or_else f g) h ≡ or_else f (or_else g h)
or_else-assoc (Some p) g h = refl
or_else-assoc None g h = refl

-- nothing as the second answer adds nothing
pub or_else-nothing : (f : Found) → or_else f None ≡ f
or_else-nothing (Some p) = refl
or_else-nothing None = refl

-- two answers that agree; the second ones need agree only where the first find nothing
pub or_else-agree : {f g h i : Found} → f ≡ g → (f ≡ None → h ≡ i) → or_else f h ≡ or_else g i
or_else-agree {f} {g} {h} {i} e more = go f refl ∙ ap (λ (x : Found). or_else x i) e
  where
    go : (x : Found) → f ≡ x → or_else x h ≡ or_else x i
    go (Some p) d = refl
    go None d = more d

-- ---- nothing is found exactly where no item breaks the rule
pub first-all : (rule : ℕ → Found) (l : List ℕ) → first rule l ≡ None → All (λ x. rule x ≡ None) l
unfolding first
first-all rule [] e = tt
first-all rule (x ∷ xs) e =
    (or_else-left (rule x) (first rule xs) e, first-all rule xs (or_else-right (rule x) (first rule xs) e))

pub first-none : (rule : ℕ → Found) (l : List ℕ) → All (λ x. rule x ≡ None) l → first rule l ≡ None
unfolding first
first-none rule [] a = refl
first-none rule (x ∷ xs) a = rw (a.0, first-none rule xs a.1)

-- ---- what is found comes from an item of the list, and no item before that one breaks the rule
pub record Hit (rule : ℕ → Found) (l : List ℕ) (p : ℕ) : Type 0 where
  pub earlier : List ℕ
  pub item : ℕ
  pub later : List ℕ
  pub split : l ≡ earlier ++ (item ∷ later)
  pub kept : All (λ x. rule x ≡ None) earlier
  pub breaks : rule item ≡ Some p

pub first-hit : (rule : ℕ → Found) (l : List ℕ) (p : ℕ) → first rule l ≡ Some p → Hit rule l p
unfolding first
first-hit rule [] p e = absurd (at-nothing (sym e))
first-hit rule (x ∷ xs) p e = go (rule x) refl e (λ k. first-hit rule xs p k)
  where
    after : rule x ≡ None → Hit rule xs p → Hit rule (x ∷ xs) p
    after d h =
        record {
          earlier = x ∷ h.earlier;
          item = h.item;
          later = h.later;
          split = ap (λ (l : List ℕ). x ∷ l) h.split;
          kept = (d, h.kept);
          breaks = h.breaks;
        }

    go : (f : Found) → rule x ≡ f → or_else f (first rule xs) ≡ Some p → (first rule xs ≡ Some p → Hit rule xs p) → Hit rule (x ∷ xs) p
    go (Some q) d c more = record { earlier = []; item = x; later = xs; split = refl; kept = tt; breaks = d ∙ c }
    go None d c more = after d (more c)

-- what holds of all items holds of the one found
pub hit-holds : (rule : ℕ → Found) (P : ℕ → Type 0) (l : List ℕ) (p : ℕ) → All P l → (h : Hit rule l p) → P h.item
hit-holds rule P l p a h = all-split P h.earlier h.item h.later (subst (All P) h.split a)

-- ---- two rules, and two lists
-- rules that agree along the list find the same
pub first-agree : (f g : ℕ → Found) (l : List ℕ) → All (λ x. f x ≡ g x) l → first f l ≡ first g l
unfolding first
first-agree f g [] a = refl
first-agree f g (x ∷ xs) a = rw (a.0, first-agree f g xs a.1)

-- a rule that is broken along the list only where another is finds nothing where that one finds nothing
pub first-weaker : (f g : ℕ → Found) (l : List ℕ) → All (λ x. f x ≡ None → g x ≡ None) l → first f l ≡ None → first g l ≡ None
unfolding first
first-weaker f g [] w e = refl
first-weaker f g (x ∷ xs) w e =
    rw (w.0 (or_else-left (f x) (first f xs) e), first-weaker f g xs w.1 (or_else-right (f x) (first f xs) e))

pub first-append : (rule : ℕ → Found) (l m : List ℕ) → first rule (l ++ m) ≡ or_else (first rule l) (first rule m)
unfolding first
first-append rule [] m = refl
first-append rule (x ∷ xs) m = rw (first-append rule xs m) (sym (or_else-assoc (rule x) (first rule xs) (first rule m)))
