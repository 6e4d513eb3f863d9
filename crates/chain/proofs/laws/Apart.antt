-- Two items of a chain are one item, or one ends before the other starts. Assumes nothing.
use Rattle.std.specs.Prelude.{ℕ, zero, suc, ◌≤◌, ◌<◌, ◌⊎◌, ◌≡◌, Some}
use Rattle.std.proofs.Common.{inl, inr, sym, subst, ◌∙◌, arith}
use Rattle.chain.specs.Chain.{chain}
use Rattle.chain.specs.Finds.{Among}
use Rattle.chain.specs.Nth.{nth}
use Rattle.chain.proofs.laws.Among.{nth-starts, nth-next}
use Rattle.chain.proofs.laws.Nth.{nth-all}
use Rattle.chain.proofs.laws.Places.{chain-within}

module _ (next : ℕ → ℕ) (end : ℕ) (grows : (p : ℕ) → p < next p) where
  abbrev pub Apart : ℕ → ℕ → Type 0
  Apart q r = (q ≡ r) ⊎ ((next q ≤ r) ⊎ (next r ≤ q))

  -- an item after the first starts where that ends, or later
  after-first : (p n q r : ℕ) → nth (chain next end p) 0 ≡ Some q → nth (chain next end p) (suc n) ≡ Some r → next q ≤ r
  after-first p n q r d e =
      subst (λ (x : ℕ). next x ≤ r) (nth-starts next end grows p q d)
      (nth-all (λ x. (next p ≤ x) × (x < end)) (chain next end (next p)) n r (chain-within next end grows (next p)) (sym (nth-next next end grows p n) ∙ e)).0

  -- items i and j of the chain from p on
  pub chain-apart : (p i j q r : ℕ) → nth (chain next end p) i ≡ Some q → nth (chain next end p) j ≡ Some r → Apart q r
  chain-apart p zero zero q r d e = inl (sym (nth-starts next end grows p q d) ∙ nth-starts next end grows p r e)
  chain-apart p zero (suc j) q r d e = inr (inl (after-first p j q r d e))
  chain-apart p (suc i) zero q r d e = inr (inr (after-first p i r q e d))
  chain-apart p (suc i) (suc j) q r d e =
      chain-apart (next p) i j q r (sym (nth-next next end grows p i) ∙ d) (sym (nth-next next end grows p j) ∙ e)

  -- so one behind another starts where that ends, or later
  pub among-behind : (p q r : ℕ) → Among (chain next end p) q → Among (chain next end p) r → q < r → next q ≤ r
  among-behind p q r a b h = go (chain-apart p a.0 b.0 q r a.1 b.1)
    where
      go : Apart q r → next q ≤ r
      go (inl e) = absurd (omega arith)
      go (inr (inl e)) = e
      go (inr (inr e)) = absurd (omega (arith, grows r))
