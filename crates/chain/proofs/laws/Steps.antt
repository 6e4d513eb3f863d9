-- Items of one size d, end to end from p: n of them, up to p + n * d. A range is the case d = 1. Assumes nothing.
use Prim.Native.Nat.{ℕ, zero, suc, ◌+◌, ◌*◌, ◌≤◌, ◌<◌}
use Rattle.std.specs.Prelude.{Bool, ◌≡◌, ltb, length, Some}
use Rattle.std.proofs.Math.Logic.{inl, inr}
use Rattle.std.proofs.Common.{sym, ◌∙◌, arith}
use Rattle.std.proofs.Math.Path.{ap}
use borrow.Author.Tests.{lt-ltb, le-ltb}
use Rattle.chain.specs.All.{All}
use Rattle.chain.specs.Chain.{chain, ahead}
use Rattle.chain.specs.First.{when}
use Rattle.chain.specs.Nth.{nth}
use Rattle.chain.proofs.laws.All.{all-map}
use Rattle.chain.proofs.laws.Below.{below}
use Rattle.chain.proofs.laws.Chain.{chain-end, chain-more}
use Rattle.chain.proofs.laws.Places.{count-end, count-more}

module _ (d : ℕ) (pos : 0 < d) where
  pub ahead-grows : (p : ℕ) → p < ahead d p
  ahead-grows p = omega arith

  pub steps-count : (n p end : ℕ) → end ≡ p + n * d → length (chain (ahead d) end p) ≡ n
  steps-count zero p end e = count-end (ahead d) end ahead-grows p (omega arith)
  steps-count (suc n) p end e =
      count-more (ahead d) end ahead-grows p (omega arith) ∙ omega (arith, steps-count n (p + d) end (omega arith))

  -- each item lies whole between the start and the end
  pub steps-fit : (n p end : ℕ) → end ≡ p + n * d → All (λ r. (p ≤ r) × (r + d ≤ end)) (chain (ahead d) end p)
  steps-fit zero p end e = rw (chain-end (ahead d) end ahead-grows p (omega arith)) tt
  steps-fit (suc n) p end e =
      rw (chain-more (ahead d) end ahead-grows p (omega arith)) (
        (omega arith, omega arith),
        all-map (λ r. (p + d ≤ r) × (r + d ≤ end)) (λ r. (p ≤ r) × (r + d ≤ end)) (λ r w. (omega (arith, w.0), w.1)) (chain (ahead d) end (p + d))
            (steps-fit n (p + d) end (omega arith)),
      )

  -- item i starts at p + i * d
  pub steps-nth : (n p end i : ℕ) → end ≡ p + n * d → i < n → nth (chain (ahead d) end p) i ≡ Some (p + i * d)
  unfolding nth
  steps-nth zero p end i e h = absurd (omega arith)
  steps-nth (suc n) p end zero e h =
      rw (chain-more (ahead d) end ahead-grows p (omega arith)) (ap Some (omega arith))
  steps-nth (suc n) p end (suc i) e h =
      rw (chain-more (ahead d) end ahead-grows p (omega arith)) (steps-nth n (p + d) end i (omega arith) (omega arith) ∙ ap Some (omega arith))

  -- and there is an item i exactly where that lies before the end, wherever the end is
  none-past : (i p end : ℕ) → end ≤ p → nth (chain (ahead d) end p) i ≡ when (ltb (p + i * d) end) (p + i * d)
  unfolding nth
  none-past i p end h = rw (chain-end (ahead d) end ahead-grows p h, le-ltb (p + i * d) end (omega arith))

  pub steps-place : (i p end : ℕ) → nth (chain (ahead d) end p) i ≡ when (ltb (p + i * d) end) (p + i * d)
  unfolding nth
  steps-place zero p end =
      elim (below p end) [
        | inl h ↦ rw (chain-more (ahead d) end ahead-grows p h)
            (sym (ap (λ (q : ℕ). when (ltb q end) q) (omega arith) ∙ ap (λ (b : Bool). when b p) (lt-ltb p end h)))
        | inr h ↦ none-past zero p end h
      ]
  steps-place (suc j) p end =
      elim (below p end) [
        | inl h ↦ rw (chain-more (ahead d) end ahead-grows p h)
            (steps-place j (p + d) end ∙ ap (λ (q : ℕ). when (ltb q end) q) (omega arith))
        | inr h ↦ none-past (suc j) p end h
      ]
