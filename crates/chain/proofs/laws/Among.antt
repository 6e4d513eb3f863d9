-- The items of a chain by their numbers: the first is at the start, the one after an item is the next, and those before an item are the chain that ends there.
-- Assumes nothing.
use Prim.Native.Nat.{ℕ, zero, suc, ◌≤◌, ◌<◌}
use Rattle.std.specs.Prelude.{Bool, ◌↔◌, ◌≡◌, ltb, Some}
use Rattle.std.proofs.Math.Logic.{inl, inr}
use Rattle.std.proofs.Math.Path.{sym, ap}
use Rattle.std.proofs.Common.{◌∙◌}
use native.Mathlib.Omega.{arith}
use borrow.Author.Tests.{lt-ltb, le-ltb}
use Rattle.chain.specs.Chain.{chain}
use Rattle.chain.specs.Finds.{Among}
use Rattle.chain.specs.First.{when}
use Rattle.chain.specs.Nth.{nth}
use Rattle.chain.proofs.laws.Below.{below}
use Rattle.chain.proofs.laws.Chain.{chain-end, chain-more}
use Rattle.chain.proofs.laws.First.{at-nothing, when-place}
use Rattle.chain.proofs.laws.Nth.{nth-all}
use Rattle.chain.proofs.laws.Places.{chain-within}

module _ (next : ℕ → ℕ) (end : ℕ) (grows : (p : ℕ) → p < next p) where
  -- number 0 is at the start, if that is before the end
  pub nth-start : (p : ℕ) → nth (chain next end p) 0 ≡ when (ltb p end) p
  unfolding nth
  nth-start p =
      elim (below p end) [
        | inl h ↦ rw (chain-more next end grows p h, lt-ltb p end h)
        | inr h ↦ rw (chain-end next end grows p h, le-ltb p end h)
      ]

  pub nth-starts : (p q : ℕ) → nth (chain next end p) 0 ≡ Some q → p ≡ q
  nth-starts p q e = when-place (ltb p end) p q (sym (nth-start p) ∙ e)

  -- number n + 1 is number n from the next item on
  pub nth-next : (p n : ℕ) → nth (chain next end p) (suc n) ≡ nth (chain next end (next p)) n
  unfolding nth
  nth-next p n =
      elim (below p end) [
        | inl h ↦ rw (chain-more next end grows p h)
        | inr h ↦ rw (chain-end next end grows p h, chain-end next end grows (next p) (omega (arith, grows p)))
      ]

  -- the next after item n is item n + 1, if it starts before the end
  nth-goes : (n p q : ℕ) → nth (chain next end p) n ≡ Some q → next q < end → nth (chain next end p) (suc n) ≡ Some (next q)
  nth-goes zero p q e h =
      nth-next p 0 ∙ ap (λ (x : ℕ). nth (chain next end (next x)) 0) (nth-starts p q e) ∙ nth-start (next q)
      ∙ ap (λ (b : Bool). when b (next q)) (lt-ltb (next q) end h)
  nth-goes (suc n) p q e h = nth-next p (suc n) ∙ nth-goes n (next p) q (sym (nth-next p n) ∙ e) h

  -- so the next after an item is an item
  pub among-goes : (p q : ℕ) → Among (chain next end p) q → next q < end → Among (chain next end p) (next q)
  among-goes p q a h = (suc a.0, nth-goes a.0 p q a.1 h)

-- the items before item j, which is at r, are those of the chain that ends at r
module _ (next : ℕ → ℕ) (grows : (p : ℕ) → p < next p) (end : ℕ) where
  -- an item after the first is at the next place or past it, and before the end
  item-past : (p j r : ℕ) → nth (chain next end p) (suc j) ≡ Some r → (p < r) × (r < end)
  item-past p j r d =
      let w = nth-all (λ q. (next p ≤ q) × (q < end)) (chain next end (next p)) j r (chain-within next end grows (next p)) (sym (nth-next next end grows p j) ∙ d) in
      (omega (arith, w.0, grows p), w.1)

  pub nth-before : (j p r i e : ℕ) → nth (chain next end p) j ≡ Some r → (nth (chain next r p) i ≡ Some e) ↔ ((i < j) × (nth (chain next end p) i ≡ Some e))
  unfolding nth
  nth-before zero p r i e d =
      let start : p ≡ r = nth-starts next end grows p r d in
      (λ h. absurd (at-nothing (sym (rw (chain-end next r grows p (omega arith)) at h))), λ h. absurd (omega (arith, h.0)))
  nth-before (suc j) p r zero e d =
      let w = item-past p j r d in
      let both : nth (chain next r p) 0 ≡ nth (chain next end p) 0 =
      nth-start next r grows p ∙ ap (λ (b : Bool). when b p) (lt-ltb p r w.0 ∙ sym (lt-ltb p end (omega (arith, w.0, w.1)))) ∙ sym (nth-start next end grows p) in
      (λ h. (omega arith, sym both ∙ h), λ h. both ∙ h.1)
  nth-before (suc j) p r (suc i) e d =
      let more = nth-before j (next p) r i e (sym (nth-next next end grows p j) ∙ d) in (
        λ h. let m = more.0 (sym (nth-next next r grows p i) ∙ h) in (omega (arith, m.0), nth-next next end grows p i ∙ m.1),
        λ h. nth-next next r grows p i ∙ more.1 (omega (arith, h.0), sym (nth-next next end grows p i) ∙ h.1),
      )
