-- The laws of the number of the first place that passes a test: when there is none, what the number says, and a loop along a chain that counts. Assumes nothing.
use Rattle.std.specs.Prelude.{ℕ, suc, ◌+◌, ◌-◌, ◌≤◌, ◌<◌, Bool, ◌≡◌, take, Some, None}
use Rattle.std.proofs.Math.Bool.{true, false, cond}
use mathlib.Core.List.{List, [], ◌∷◌}
use Rattle.std.proofs.Math.Path.{refl, sym, ap}
use Rattle.std.proofs.Common.{◌∙◌}
use native.Mathlib.Omega.{arith}
use Rattle.chain.specs.All.{All}
use Rattle.chain.specs.Chain.{chain}
use Rattle.chain.specs.Nth.{nth}
use Rattle.chain.specs.Number.{number_from}
use Rattle.chain.specs.Found.{Found}
use Rattle.chain.proofs.laws.Chain.{chain-end, chain-more}
use Rattle.chain.proofs.laws.First.{at-nothing}

module _ (test : ℕ → Bool) where
  -- there is none exactly where no place passes
  pub none-number : (n : ℕ) (l : List ℕ) → All (λ x. test x ≡ false) l → number_from n test l ≡ None
  unfolding number_from
  none-number n [] a = refl
  none-number n (x ∷ xs) a = rw a.0 (none-number (n + 1) xs a.1)

  pub number-none : (n : ℕ) (l : List ℕ) → number_from n test l ≡ None → All (λ x. test x ≡ false) l
  unfolding number_from
  number-none n [] e = tt
  number-none n (x ∷ xs) e = go (test x) refl e (λ k. number-none (n + 1) xs k)
    where
      go : (b : Bool) → test x ≡ b → cond b (Some n) (number_from (n + 1) test xs) ≡ None
          → (number_from (n + 1) test xs ≡ None → All (λ y. test y ≡ false) xs)
          → (test x ≡ false) × All (λ y. test y ≡ false) xs
      go true t d more = absurd (at-nothing d)
      go false t d more = (t, more d)

  -- the place of that number passes, and none before it does; `n` items were counted before the list
  pub record Numbered (l : List ℕ) (n k : ℕ) : Type 0 where
    pub place : ℕ
    pub from : n ≤ k
    pub found : nth l (k - n) ≡ Some place
    pub passes : test place ≡ true
    pub earlier : All (λ x. test x ≡ false) (take (k - n) l)

  pub number-first : (n : ℕ) (l : List ℕ) (k : ℕ) → number_from n test l ≡ Some k → Numbered l n k
  unfolding number_from nth
  number-first n [] k e = absurd (at-nothing (sym e))
  number-first n (x ∷ xs) k e = go (test x) refl e (λ d. number-first (n + 1) xs k d)
    where
      here : test x ≡ true → n ≡ k → Numbered (x ∷ xs) n k
      here t d =
          let z : k - n ≡ 0 = omega arith in
          record { place = x; from = omega arith; found = rw z; passes = t; earlier = rw z tt }

      later : test x ≡ false → Numbered xs (n + 1) k → Numbered (x ∷ xs) n k
      later t m =
          let z : k - n ≡ suc (k - (n + 1)) = omega (arith, m.from) in
          record { place = m.place; from = omega (arith, m.from); found = rw z m.found; passes = m.passes; earlier = rw z (t, m.earlier) }

      go : (b : Bool) → test x ≡ b → cond b (Some n) (number_from (n + 1) test xs) ≡ Some k → (number_from (n + 1) test xs ≡ Some k → Numbered xs (n + 1) k) → Numbered (x ∷ xs) n k
      go true t d more = here t cc
      go false t d more = later t (more d)

  -- ---- a loop along a chain that stands at place p and has counted n items before it: `number_from n test (chain next end p) ≡ r`
  module _ (next : ℕ → ℕ) (end : ℕ) (grows : (p : ℕ) → p < next p) where
    number-more : (n p : ℕ) → p < end → number_from n test (chain next end p) ≡ cond (test p) (Some n) (number_from (n + 1) test (chain next end (next p)))
    unfolding number_from
    number-more n p h = ap (number_from n test) (chain-more next end grows p h)

    -- the item at p does not pass: the next one, at q
    pub number-turn : (n p q : ℕ) {r : Found} → p < end → test p ≡ false → q ≡ next p → number_from n test (chain next end p) ≡ r → number_from (n + 1) test (chain next end q) ≡ r
    number-turn n p q {r} h t e i =
        ap (λ (x : ℕ). number_from (n + 1) test (chain next end x)) e
        ∙ sym (ap (λ (b : Bool). cond b (Some n) (number_from (n + 1) test (chain next end (next p)))) t)
        ∙ sym (number-more n p h) ∙ i

    -- it does
    pub number-hit : (n p : ℕ) {r : Found} → p < end → test p ≡ true → number_from n test (chain next end p) ≡ r → Some n ≡ r
    number-hit n p {r} h t i =
        sym (ap (λ (b : Bool). cond b (Some n) (number_from (n + 1) test (chain next end (next p)))) t)
        ∙ sym (number-more n p h) ∙ i

    -- there is no item at p
    pub number-done : (n p : ℕ) {r : Found} → end ≤ p → number_from n test (chain next end p) ≡ r → None ≡ r
    unfolding number_from
    number-done n p h i = sym (ap (number_from n test) (chain-end next end grows p h)) ∙ i
