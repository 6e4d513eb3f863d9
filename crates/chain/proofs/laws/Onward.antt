-- Going along a chain: after n items it stands at item n, or at the end where there is none. So the items in their order are those at the places it stands
-- at. Assumes nothing.
use Prim.Native.Nat.{ℕ, zero, suc, ◌+◌, ◌≤◌, ◌<◌, min}
use Rattle.std.specs.Prelude.{Bool, ◌≡◌, ltb}
use mathlib.Core.List.{List, ◌∷◌, map}
use Rattle.std.proofs.Math.Logic.{inl, inr}
use Rattle.std.proofs.Math.Path.{refl, sym, ap}
use Rattle.std.proofs.Common.{◌∙◌, add-one, arith, lt-ltb, le-ltb}
use Rattle.std.proofs.Math.ListN.{length}
use Rattle.chain.specs.Chain.{chain}
use Rattle.chain.specs.Fill.{tab}
use Rattle.chain.specs.First.{when}
use Rattle.chain.specs.Nth.{nth}
use Rattle.chain.specs.Onward.{onward, along}
use Rattle.chain.proofs.laws.Among.{nth-start, nth-next}
use Rattle.chain.proofs.laws.Below.{below}
use Rattle.chain.proofs.laws.Chain.{chain-end, chain-more}
use Rattle.chain.proofs.laws.Fill.{tab-front, tab-agree}
use Rattle.chain.proofs.laws.Places.{count-end, count-more}

module _ (next : ℕ → ℕ) (end : ℕ) where
  -- on from a place before the end, and from the end on
  pub onward-more : (p : ℕ) → p < end → onward next end p ≡ min (next p) end
  unfolding onward
  onward-more p h = rw (lt-ltb p end h)

  pub onward-end : (p : ℕ) → end ≤ p → onward next end p ≡ p
  unfolding onward
  onward-end p h = rw (le-ltb p end h)

  -- n items from the end on
  along-end : (n p : ℕ) → end ≤ p → along next end p n ≡ p
  unfolding along
  along-end zero p h = refl
  along-end (suc n) p h = ap (onward next end) (along-end n p h) ∙ onward-end p h

  -- one item first, and then n
  pub along-first : (n p : ℕ) → along next end p (suc n) ≡ along next end (onward next end p) n
  unfolding along
  along-first zero p = refl
  along-first (suc n) p = ap (onward next end) (along-first n p)

  -- n items, and then one
  pub along-step : (n p : ℕ) → onward next end (along next end p n) ≡ along next end p (n + 1)
  unfolding along
  along-step n p = rw (add-one n)

module _ (next : ℕ → ℕ) (end : ℕ) (grows : (p : ℕ) → p < next p) where
  -- the chain from where it goes on is the chain from the next item
  onward-chain : (p : ℕ) → p < end → chain next end (onward next end p) ≡ chain next end (next p)
  onward-chain p h =
      elim (below (next p) end) [
        | inl k ↦ ap (chain next end) (onward-more next end p h ∙ omega arith)
        | inr k ↦ chain-end next end grows (onward next end p) (omega (arith, onward-more next end p h)) ∙ sym (chain-end next end grows (next p) k)
      ]

  -- item n stands where it is after n items, if that is before the end
  pub nth-along : (n p : ℕ) → nth (chain next end p) n ≡ when (ltb (along next end p n) end) (along next end p n)
  unfolding nth along
  nth-along zero p = nth-start next end grows p
  nth-along (suc n) p =
      elim (below p end) [
        | inl h ↦ nth-next next end grows p n ∙ ap (λ (l : List ℕ). nth l n) (sym (onward-chain p h)) ∙ nth-along n (onward next end p)
            ∙ ap (λ (q : ℕ). when (ltb q end) q) (sym (along-first next end n p))
        | inr h ↦ ap (λ (l : List ℕ). nth l (suc n)) (chain-end next end grows p h)
            ∙ sym (ap (λ (q : ℕ). when (ltb q end) q) (along-end next end (suc n) p h) ∙ ap (λ (b : Bool). when b p) (le-ltb p end h))
      ]

  -- what stands at the places it comes to, one after the other, is what stands at the items
  pub tab-along : {A : Type 0} (f : ℕ → A) (n p : ℕ) → length (chain next end p) ≡ n → tab (λ i. f (along next end p i)) n ≡ map f (chain next end p)
  unfolding tab along
  tab-along f zero p e =
      elim (below p end) [
        | inl h ↦ absurd (omega (arith, e, count-more next end grows p h))
        | inr h ↦ sym (ap (map f) (chain-end next end grows p h))
      ]
  tab-along {A} f (suc n) p e =
      elim (below p end) [
        | inl h ↦ tab-front (λ i. f (along next end p i)) n
            ∙ ap (λ (l : List A). f p ∷ l)
            (tab-agree (λ i. f (along next end p (suc i))) (λ i. f (along next end (onward next end p) i)) n (λ i k. ap f (along-first next end i p))
            ∙ tab-along f n (onward next end p) (ap length (onward-chain p h) ∙ omega (arith, e, count-more next end grows p h))
            ∙ ap (map f) (onward-chain p h))
            ∙ sym (ap (map f) (chain-more next end grows p h))
        | inr h ↦ absurd (omega (arith, e, count-end next end grows p h))
      ]
