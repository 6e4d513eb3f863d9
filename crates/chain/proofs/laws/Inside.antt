-- Items of a chain that end before the next one starts: where a byte of an item lies inside an item of the list, that is the item itself. And the items leave no
-- place out: each place from the start up to the end lies in one. Assumes nothing.
use Prim.Native.Nat.{ℕ, suc, ◌≤◌, ◌<◌}
use mathlib.Core.List.{List}
use Rattle.std.proofs.Math.Logic.{inl, inr}
use Rattle.std.specs.Prelude.{◌≡◌, Some}
use Rattle.std.proofs.Common.{sym, ◌∙◌, arith}
use Rattle.std.proofs.Math.Path.{ap}
use Rattle.chain.specs.Chain.{chain}
use Rattle.chain.specs.Inside.{Inside}
use Rattle.chain.specs.Nth.{nth}
use Rattle.chain.proofs.laws.Apart.{Apart, chain-apart}
use Rattle.chain.proofs.laws.Below.{below}
use Rattle.chain.proofs.laws.Chain.{chain-more, chain-ind}

module _ (next : ℕ → ℕ) (end : ℕ) (grows : (p : ℕ) → p < next p) (start : ℕ) (has : ℕ → Type 0) (from to : ℕ → ℕ) (after : (p : ℕ) → p ≤ from p) (within : (p : ℕ) → to p ≤ next p) where
  pub inside-own :
      (i p q : ℕ) → nth (chain next end start) i ≡ Some p → p ≤ q → q < next p → (u : Inside (chain next end start) has from to q) → u.place ≡ p
  inside-own i p q at a b u = go (chain-apart next end grows start i u.number p u.place at u.stands)
    where
      go : Apart next end grows p u.place → u.place ≡ p
      go (inl d) = sym d
      go (inr (inl h)) = absurd (omega (arith, b, h, u.past, after u.place))
      go (inr (inr h)) = absurd (omega (arith, a, h, u.before, within u.place))

-- the item that a place lies in
abbrev pub In : (ℕ → ℕ) → List ℕ → ℕ → Type 0
In next items q = Inside items (λ p. Unit {0}) (λ p. p) next q

module _ (next : ℕ → ℕ) (end : ℕ) (grows : (p : ℕ) → p < next p) where
  pub chain-covers : (p q : ℕ) → p ≤ q → q < end → In next (chain next end p) q
  unfolding nth
  chain-covers =
      chain-ind next end grows (λ p. (q : ℕ) → p ≤ q → q < end → In next (chain next end p) q) (λ p h q a b. absurd (omega arith))
      (λ p h ih q a b.
      elim (below q (next p)) [
        | inl l ↦ record { number = 0; place = p; stands = ap (λ (l : List ℕ). nth l 0) (chain-more next end grows p h); property = tt; past = a; before = l }
        | inr l ↦
            let w : In next (chain next end (next p)) q = ih q l b in
            record {
              number = suc w.number;
              place = w.place;
              stands = ap (λ (l : List ℕ). nth l (suc w.number)) (chain-more next end grows p h) ∙ w.stands;
              property = tt;
              past = w.past;
              before = w.before;
            }
      ])
