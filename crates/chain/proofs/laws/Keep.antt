-- The laws of the elements that pass a test and of the only place among them. Along a chain two searches tell the only one: the first place that
-- passes, and the first after that one. Assumes nothing.
use Rattle.std.specs.Prelude.{ℕ, zero, suc, ◌<◌, Bool, ◌≡◌, Some, None}
use Rattle.std.proofs.Math.Bool.{true, false, cond}
use mathlib.Core.List.{List, [], ◌∷◌, ◌++◌, append-nil}
use Rattle.std.proofs.Math.Path.{refl, ap}
use Rattle.std.proofs.Common.{sym, ap₂, ◌∙◌, arith}
use Rattle.chain.specs.All.{All}
use Rattle.chain.specs.Chain.{chain}
use Rattle.chain.specs.First.{or_else, when, first, search}
use Rattle.chain.specs.Keep.{keep, only}
use Rattle.chain.specs.Nth.{nth}
use Rattle.chain.specs.Found.{Found}
use Rattle.chain.proofs.laws.All.{all-map}
use Rattle.chain.proofs.laws.Chain.{chain-more, chain-ind}
use Rattle.chain.proofs.laws.First.{at-nothing, when-nothing, first-all}
use Rattle.chain.proofs.laws.Loops.{search-end, search-more}
use Rattle.chain.proofs.laws.Nth.{all-of-nth}

module _ {A : Type 0} where
  -- two tests that agree along the list keep the same
  pub keep-agree : (f g : A → Bool) (l : List A) → All (λ x. f x ≡ g x) l → keep f l ≡ keep g l
  unfolding keep
  keep-agree f g [] a = refl
  keep-agree f g (x ∷ xs) a = rw (a.0, keep-agree f g xs a.1)

  -- a test that no element of the list passes keeps none
  pub keep-none : (test : A → Bool) (l : List A) → All (λ x. test x ≡ false) l → keep test l ≡ []
  unfolding keep
  keep-none test [] a = refl
  keep-none test (x ∷ xs) a = rw (a.0, keep-none test xs a.1)

  -- a test that each element passes keeps all
  pub keep-every : (test : A → Bool) (l : List A) → All (λ x. test x ≡ true) l → keep test l ≡ l
  unfolding keep
  keep-every test [] a = refl
  keep-every test (x ∷ xs) a = rw (a.0, keep-every test xs a.1)

  -- what is kept of two lists that are joined
  pub keep-append : (test : A → Bool) (l m : List A) → keep test (l ++ m) ≡ keep test l ++ keep test m
  unfolding keep
  keep-append test [] m = refl
  keep-append test (x ∷ xs) m = go (test x) (keep-append test xs m)
    where
      go : (b : Bool) → keep test (xs ++ m) ≡ keep test xs ++ keep test m → cond b (x ∷ keep test (xs ++ m)) (keep test (xs ++ m)) ≡ cond b (x ∷ keep test xs) (keep test xs) ++ keep test m
      go true e = ap (λ (k : List A). x ∷ k) e
      go false e = e

  -- a test that the elements of one part pass and those of the other do not keeps that part
  pub keep-front : (test : A → Bool) (l m : List A) → All (λ x. test x ≡ true) l → All (λ x. test x ≡ false) m → keep test (l ++ m) ≡ l
  keep-front test l m a b = keep-append test l m ∙ rw (keep-every test l a, keep-none test m b, append-nil l)

  pub keep-back : (test : A → Bool) (l m : List A) → All (λ x. test x ≡ false) l → All (λ x. test x ≡ true) m → keep test (l ++ m) ≡ m
  keep-back test l m a b = keep-append test l m ∙ rw (keep-none test l a, keep-every test m b)

  -- what is kept passes the test, and what holds of all elements holds of it
  pub keep-all : (P : A → Type 0) (test : A → Bool) (l : List A) → All P l → All (λ x. (test x ≡ true) × P x) (keep test l)
  unfolding keep
  keep-all P test [] a = tt
  keep-all P test (x ∷ xs) a = go (test x) refl (keep-all P test xs a.1)
    where
      go : (b : Bool) → test x ≡ b → All (λ x. (test x ≡ true) × P x) (keep test xs) → All (λ x. (test x ≡ true) × P x) (cond b (x ∷ keep test xs) (keep test xs))
      go true e more = ((e, a.0), more)
      go false e more = more

-- what holds of all places holds of the only one
pub only-all : (P : ℕ → Type 0) (l : List ℕ) (p : ℕ) → All P l → only l ≡ Some p → P p
unfolding only
only-all P [] p a e = absurd (at-nothing (sym e))
only-all P (x ∷ []) p a e = let d : x ≡ p = cc in rw d at a.0
only-all P (x ∷ (y ∷ ys)) p a e = absurd (at-nothing (sym e))

-- ---- the only place that passes, by its number: no other number has a place that passes
keep-number : (test : ℕ → Bool) (l : List ℕ) (i p : ℕ) → nth l i ≡ Some p → test p ≡ true
    → ((j q : ℕ) → nth l j ≡ Some q → test q ≡ true → j ≡ i) → keep test l ≡ p ∷ []
unfolding keep nth
keep-number test [] i p at on alone = absurd (at-nothing (sym at))
keep-number test (x ∷ xs) zero p at on alone =
    let d : x ≡ p = cc in
    ap (λ (b : Bool). cond b (x ∷ keep test xs) (keep test xs)) (ap test d ∙ on)
    ∙ ap₂ (λ (y : ℕ) (ys : List ℕ). y ∷ ys) d (keep-none test xs (all-of-nth (λ q. test q ≡ false) xs (λ j q e. other j q e (test q) refl)))
  where
    other : (j q : ℕ) → nth xs j ≡ Some q → (b : Bool) → test q ≡ b → b ≡ false
    other j q e true t = absurd (omega (arith, alone (suc j) q e t))
    other j q e false t = refl
keep-number test (x ∷ xs) (suc i) p at on alone =
    go (test x) refl (keep-number test xs i p at on (λ j q e t. omega (arith, alone (suc j) q e t)))
  where
    go : (b : Bool) → test x ≡ b → keep test xs ≡ p ∷ [] → cond b (x ∷ keep test xs) (keep test xs) ≡ p ∷ []
    go true t more = absurd (omega (arith, alone zero x refl t))
    go false t more = more

pub only-number : (test : ℕ → Bool) (l : List ℕ) (i p : ℕ) → nth l i ≡ Some p → test p ≡ true
    → ((j q : ℕ) → nth l j ≡ Some q → test q ≡ true → j ≡ i) → only (keep test l) ≡ Some p
unfolding only
only-number test l i p at on alone = ap only (keep-number test l i p at on alone)

-- ---- the only place that passes, by searches
module _ (test : ℕ → Bool) where
  abbrev rule : ℕ → Found
  rule p = when (test p) p

  unfound-none : (l : List ℕ) → first rule l ≡ None → keep test l ≡ []
  unfound-none l e =
      keep-none test l (all-map (λ x. rule x ≡ None) (λ x. test x ≡ false) (λ x d. when-nothing (test x) x d) l (first-all rule l e))

  -- nothing is found: there is no only one
  pub only-none : (l : List ℕ) → first rule l ≡ None → only (keep test l) ≡ None
  unfolding only
  only-none l e = ap only (unfound-none l e)

  module _ (next : ℕ → ℕ) (end : ℕ) (grows : (p : ℕ) → p < next p) where
    -- what is found comes first, and then what is kept after it
    keep-found : (a p : ℕ) → search rule next end a ≡ Some p → keep test (chain next end a) ≡ p ∷ keep test (chain next end (next p))
    unfolding keep
    keep-found =
        chain-ind next end grows (λ a. (p : ℕ) → search rule next end a ≡ Some p → keep test (chain next end a) ≡ p ∷ keep test (chain next end (next p)))
        (λ a h p e. absurd (at-nothing (sym e ∙ search-end rule next end grows a h)))
        (λ a h ih p e.
        ap (keep test) (chain-more next end grows a h) ∙ go a p (ih p) (test a) (sym (search-more rule next end grows a h) ∙ e))
      where
        go : (a p : ℕ) → (search rule next end (next a) ≡ Some p → keep test (chain next end (next a)) ≡ p ∷ keep test (chain next end (next p))) → (b : Bool)
            → or_else (when b a) (search rule next end (next a)) ≡ Some p
            → cond b (a ∷ keep test (chain next end (next a))) (keep test (chain next end (next a))) ≡ p ∷ keep test (chain next end (next p))
        go a p ih true e = let d : a ≡ p = cc in ap (λ (x : ℕ). x ∷ keep test (chain next end (next x))) d
        go a p ih false e = ih e

    -- one is found, and none after it: this is the only one
    pub only-one : (a p : ℕ) → search rule next end a ≡ Some p → search rule next end (next p) ≡ None → only (keep test (chain next end a)) ≡ Some p
    unfolding only
    only-one a p e n = ap only (keep-found a p e ∙ ap (λ (l : List ℕ). p ∷ l) (unfound-none (chain next end (next p)) n))

    -- one is found, and one more after it: there is no only one
    pub only-two : (a p q : ℕ) → search rule next end a ≡ Some p → search rule next end (next p) ≡ Some q → only (keep test (chain next end a)) ≡ None
    unfolding only
    only-two a p q e m = ap only (keep-found a p e ∙ ap (λ (l : List ℕ). p ∷ l) (keep-found (next p) q m))
