-- The laws of a chain whose places grow: at its end, at a place, and induction along it. From here on nobody sees the fuel. Assumes nothing.
use Prim.Native.Nat.{ℕ, zero, suc, ◌+◌, ◌≤◌, ◌<◌}
use Rattle.std.proofs.Math.Bool.{cond}
use mathlib.Core.List.{List, [], ◌∷◌}
use Rattle.std.proofs.Common.{inl, inr, arith, lt-ltb, le-ltb}
use Rattle.std.specs.Prelude.{◌≡◌, ltb}
use Rattle.std.proofs.Math.Path.{refl, sym, ap}
use Rattle.chain.specs.Chain.{visit, chain}
use Rattle.chain.proofs.laws.Below.{below}

module _ (next : ℕ → ℕ) (end : ℕ) (grows : (p : ℕ) → p < next p) where
  visit-end : (f p : ℕ) → end ≤ p → visit next end f p ≡ []
  unfolding visit
  visit-end zero p h = refl
  visit-end (suc f) p h = rw (le-ltb p end h)

  -- fuel does not matter where it is enough
  visit-same : (f g p : ℕ) → end ≤ p + f → end ≤ p + g → visit next end f p ≡ visit next end g p
  unfolding visit
  visit-same zero g p h k = sym (visit-end g p (omega arith))
  visit-same (suc f) zero p h k = visit-end (suc f) p (omega arith)
  visit-same (suc f) (suc g) p h k =
      ap (λ (l : List ℕ). cond (ltb p end) (p ∷ l) [])
      (visit-same f g (next p) (omega (arith, grows p)) (omega (arith, grows p)))

  visit-more : (f p : ℕ) → end ≤ p + f → p < end → visit next end f p ≡ p ∷ visit next end f (next p)
  unfolding visit
  visit-more zero p h k = absurd (omega arith)
  visit-more (suc f) p h k =
      rw (lt-ltb p end k)
      (ap (λ (l : List ℕ). p ∷ l) (visit-same f (suc f) (next p) (omega (arith, grows p)) (omega (arith, grows p))))

  visit-ind : (P : ℕ → Type 0) → ((p : ℕ) → end ≤ p → P p) → ((p : ℕ) → p < end → P (next p) → P p) → (f p : ℕ) → end ≤ p + f → P p
  visit-ind P stop step zero p h = stop p (omega arith)
  visit-ind P stop step (suc f) p h =
      elim (below p end) [ inl k ↦ step p k (visit-ind P stop step f (next p) (omega (arith, grows p))) | inr k ↦ stop p k ]

  -- from the end on there is no place
  pub chain-end : (p : ℕ) → end ≤ p → chain next end p ≡ []
  unfolding chain
  chain-end p h = visit-end end p h

  -- before it, p itself and the places from `next p` on
  pub chain-more : (p : ℕ) → p < end → chain next end p ≡ p ∷ chain next end (next p)
  unfolding chain
  chain-more p h = visit-more end p (omega arith) h

  -- what holds from the end on, and at p where it holds at `next p`, holds everywhere
  pub chain-ind : (P : ℕ → Type 0) → ((p : ℕ) → end ≤ p → P p) → ((p : ℕ) → p < end → P (next p) → P p) → (p : ℕ) → P p
  chain-ind P stop step p = visit-ind P stop step end p (omega arith)
