-- The places of a chain: how many there are, the one at a number, that they rise, and between which bounds they lie. Assumes nothing.
use Rattle.std.specs.Prelude.{ℕ, zero, suc, ◌+◌, ◌≤◌, ◌<◌, ◌≡◌, length, get_or}
use Rattle.std.proofs.Common.{inl, inr, sym, ap, ◌∙◌, arith}
use Rattle.chain.specs.All.{All}
use Rattle.chain.specs.Chain.{chain}
use Rattle.chain.proofs.laws.All.{all-map}
use Rattle.chain.proofs.laws.Below.{below}
use Rattle.chain.proofs.laws.Chain.{chain-end, chain-more, chain-ind}

module _ (next : ℕ → ℕ) (end : ℕ) (grows : (p : ℕ) → p < next p) where
  pub count-end : (p : ℕ) → end ≤ p → length (chain next end p) ≡ 0
  count-end p h = rw (chain-end next end grows p h)

  pub count-more : (p : ℕ) → p < end → length (chain next end p) ≡ length (chain next end (next p)) + 1
  count-more p h = rw (chain-more next end grows p h) (omega arith)

  -- a chain with a place has one at its start
  pub some-place : (p n : ℕ) → n < length (chain next end p) → p < end
  some-place p n h = elim (below p end) [ inl k ↦ k | inr k ↦ absurd (omega (arith, count-end p k)) ]

  -- no more places than bytes
  pub count-bound : (p : ℕ) → p ≤ end → p + length (chain next end p) ≤ end
  count-bound =
      chain-ind next end grows (λ p. p ≤ end → p + length (chain next end p) ≤ end) (λ p h k. omega (arith, count-end p h))
      (λ p h ih k.
      elim (below (next p) end) [
        | inl j ↦ omega (arith, count-more p h, grows p, ih (omega arith))
        | inr j ↦ omega (arith, count-more p h, count-end (next p) j)
      ])

  -- place 0 is the start, and place n + 1 is where the item at place n ends
  pub place-zero : (p : ℕ) → p < end → get_or (chain next end p) 0 0 ≡ p
  place-zero p h = rw (chain-more next end grows p h)

  place-more : (p n : ℕ) → p < end → get_or (chain next end p) (suc n) 0 ≡ get_or (chain next end (next p)) n 0
  place-more p n h = rw (chain-more next end grows p h)

  abbrev Steps : ℕ → Type 0
  Steps p =
      (n : ℕ) → suc n < length (chain next end p) → get_or (chain next end p) (suc n) 0 ≡ next (get_or (chain next end p) n 0)

  steps-more : (p : ℕ) → p < end → Steps (next p) → Steps p
  steps-more p h ih zero k =
      let j : next p < end = some-place (next p) 0 (omega (arith, count-more p h)) in
      place-more p 0 h ∙ place-zero (next p) j ∙ ap next (sym (place-zero p h))
  steps-more p h ih (suc n) k =
      place-more p (suc n) h ∙ ih n (omega (arith, count-more p h)) ∙ ap next (sym (place-more p n h))

  pub place-next : (p n : ℕ) → suc n < length (chain next end p) → get_or (chain next end p) (suc n) 0 ≡ next (get_or (chain next end p) n 0)
  place-next = chain-ind next end grows Steps (λ p h n k. absurd (omega (arith, count-end p h))) steps-more

  -- places rise
  pub chain-rises : (p n : ℕ) → suc n < length (chain next end p) → get_or (chain next end p) n 0 < get_or (chain next end p) (suc n) 0
  chain-rises p n h = rw (place-next p n h) (grows (get_or (chain next end p) n 0))

  pub places-rise : (p i j : ℕ) → i < j → j < length (chain next end p) → get_or (chain next end p) i 0 < get_or (chain next end p) j 0
  places-rise p i zero h k = absurd (omega arith)
  places-rise p i (suc j) h k =
      elim (below i j) [
        | inl l ↦ omega (arith, places-rise p i j l (omega arith), chain-rises p j k)
        | inr l ↦ let e : i ≡ j = omega arith in rw e (chain-rises p j k)
      ]

  -- each lies at or past the start, and before the end
  pub chain-within : (p : ℕ) → All (λ q. (p ≤ q) × (q < end)) (chain next end p)
  chain-within =
      chain-ind next end grows (λ p. All (λ q. (p ≤ q) × (q < end)) (chain next end p)) (λ p h. rw (chain-end next end grows p h) tt)
      (λ p h ih.
      rw (chain-more next end grows p h) (
        (omega arith, h),
        all-map (λ q. (next p ≤ q) × (q < end)) (λ q. (p ≤ q) × (q < end)) (λ q w. (omega (arith, grows p), w.1)) (chain next end (next p)) ih,
      ))

  -- what holds of every number from the start to the end holds of each place
  pub chain-all : (P : ℕ → Type 0) (p : ℕ) → ((q : ℕ) → p ≤ q → q < end → P q) → All P (chain next end p)
  chain-all P p f = all-map (λ q. (p ≤ q) × (q < end)) P (λ q w. f q w.0 w.1) (chain next end p) (chain-within p)
