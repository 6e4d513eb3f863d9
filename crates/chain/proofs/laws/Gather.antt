-- A walk that carries what a rule found first: at place p, what was found so far, or else what the rest of the chain finds, is what the whole chain finds.
-- Assumes nothing.
use Rattle.std.specs.Prelude.{ℕ, ◌≤◌, ◌<◌, ◌≡◌, None}
use Rattle.std.proofs.Common.{inl, inr, sym, ap, ◌∙◌, arith}
use Rattle.chain.specs.First.{or_else, search}
use Rattle.chain.specs.Found.{Found}
use Rattle.chain.proofs.laws.Below.{below}
use Rattle.chain.proofs.laws.Chain.{chain-ind}
use Rattle.chain.proofs.laws.First.{or_else-assoc, or_else-nothing}
use Rattle.chain.proofs.laws.Loops.{search-end, search-more}

module _ (rule : ℕ → Found) (next : ℕ → ℕ) (end : ℕ) (grows : (p : ℕ) → p < next p) where
  -- the item at p is asked, after what was found before it: on to q
  pub gather : (f : Found) (p q : ℕ) {r : Found} → p < end → q ≡ next p → or_else f (search rule next end p) ≡ r → or_else (or_else f (rule p)) (search rule next end q) ≡ r
  gather f p q h n inv =
      ap (λ (x : ℕ). or_else (or_else f (rule p)) (search rule next end x)) n
      ∙ or_else-assoc f (rule p) (search rule next end (next p))
      ∙ ap (or_else f) (sym (search-more rule next end grows p h)) ∙ inv

  -- no item is left: what was found is the answer
  pub gathered : (f : Found) (p : ℕ) {r : Found} → end ≤ p → or_else f (search rule next end p) ≡ r → f ≡ r
  gathered f p h inv = sym (or_else-nothing f) ∙ ap (or_else f) (sym (search-end rule next end grows p h)) ∙ inv

  -- where the rule is not broken at p, the search may begin at the next place
  pub skip : (p : ℕ) → rule p ≡ None → search rule next end p ≡ search rule next end (next p)
  skip p e =
      elim (below p end) [
        | inl k ↦ search-more rule next end grows p k ∙ ap (λ (g : Found). or_else g (search rule next end (next p))) e
        | inr k ↦ search-end rule next end grows p k ∙ sym (search-end rule next end grows (next p) (omega (arith, grows p)))
      ]

-- two rules that agree from a place on find the same from there on
pub search-from : (f g : ℕ → Found) (next : ℕ → ℕ) (end : ℕ) (grows : (p : ℕ) → p < next p) (from : ℕ)
    → ((p : ℕ) → from ≤ p → f p ≡ g p) → (p : ℕ) → from ≤ p → search f next end p ≡ search g next end p
search-from f g next end grows from same =
    chain-ind next end grows (λ p. from ≤ p → search f next end p ≡ search g next end p)
    (λ p h l. search-end f next end grows p h ∙ sym (search-end g next end grows p h))
    (λ p h ih l.
    search-more f next end grows p h
    ∙ rw (same p l, ih (omega (arith, grows p))) (sym (search-more g next end grows p h)))
