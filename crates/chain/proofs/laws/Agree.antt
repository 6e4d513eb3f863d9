-- Two chains beside each other: two `next` that agree on the places visited, and two rules that agree there. Assumes nothing.
use Rattle.std.specs.Prelude.{ℕ, ◌≤◌, ◌<◌, List, ◌∷◌, ◌⊎◌, ◌≡◌}
use Rattle.std.proofs.Common.{inl, inr, sym, ap, ◌∙◌}
use Rattle.chain.specs.All.{All}
use Rattle.chain.specs.Chain.{chain}
use Rattle.chain.specs.First.{search}
use Rattle.chain.specs.Found.{Found}
use Rattle.chain.proofs.laws.Chain.{chain-end, chain-more, chain-ind}
use Rattle.chain.proofs.laws.First.{first-agree}
use Rattle.chain.proofs.laws.Places.{chain-all}

-- two functions that agree on the places visited have one chain
pub chain-agree : (next other : ℕ → ℕ) (end : ℕ) → ((p : ℕ) → p < next p) → ((p : ℕ) → p < other p) → (p : ℕ) → All (λ q. next q ≡ other q) (chain next end p) → chain next end p ≡ chain other end p
chain-agree next other end grows rises =
    chain-ind next end grows (λ p. All (λ q. next q ≡ other q) (chain next end p) → chain next end p ≡ chain other end p)
    (λ p h a. chain-end next end grows p h ∙ sym (chain-end other end rises p h))
    (λ p h ih a.
    let b : All (λ q. next q ≡ other q) (p ∷ chain next end (next p)) = rw (chain-more next end grows p h) at a in
    chain-more next end grows p h ∙ ap (λ (l : List ℕ). p ∷ l) (ih b.1 ∙ ap (chain other end) b.0) ∙ sym (chain-more other end rises p h))

-- two chains go on from q to one place, or both pass the end
abbrev pub Close : (ℕ → ℕ) → (ℕ → ℕ) → ℕ → ℕ → Type 0
Close next other end q = (next q ≡ other q) ⊎ ((end ≤ next q) × (end ≤ other q))

-- chains that part only past the end have the same places
pub chain-close :
    (next other : ℕ → ℕ) (end : ℕ) → ((p : ℕ) → p < next p) → ((p : ℕ) → p < other p) → (p : ℕ)
    → All (Close next other end) (chain next end p) → chain next end p ≡ chain other end p
chain-close next other end grows rises =
    chain-ind next end grows (λ p. All (Close next other end) (chain next end p) → chain next end p ≡ chain other end p)
    (λ p h a. chain-end next end grows p h ∙ sym (chain-end other end rises p h))
    (λ p h ih a.
    let b : All (Close next other end) (p ∷ chain next end (next p)) = rw (chain-more next end grows p h) at a in
    chain-more next end grows p h ∙ ap (λ (l : List ℕ). p ∷ l) (ih b.1 ∙ onward p b.0) ∙ sym (chain-more other end rises p h))
  where
    onward : (p : ℕ) → Close next other end p → chain other end (next p) ≡ chain other end (other p)
    onward p (inl e) = ap (chain other end) e
    onward p (inr h) = chain-end other end rises (next p) h.0 ∙ sym (chain-end other end rises (other p) h.1)

-- two rules that agree at each place from the start up to the end find the same
pub search-agree : (f g : ℕ → Found) (next : ℕ → ℕ) (end : ℕ) → ((p : ℕ) → p < next p) → (p : ℕ) → ((q : ℕ) → p ≤ q → q < end → f q ≡ g q) → search f next end p ≡ search g next end p
search-agree f g next end grows p agree =
    first-agree f g (chain next end p) (chain-all next end grows (λ q. f q ≡ g q) p agree)
