-- Loops along a chain. A loop that stands at place p has as its invariant that the answer from p on is the answer r of the whole;
-- each law below is one way on from there: a turn to the next place q, a return, or the end. Assumes nothing.
use Prim.Native.Nat.{ℕ, zero, suc, ◌+◌, ◌-◌, ◌≤◌, ◌<◌}
use Rattle.std.specs.Prelude.{List, ◌∷◌, ◌≡◌, length, true, false, is_some, Some, None}
use Rattle.std.proofs.Math.Path.{sym, ap}
use Rattle.std.proofs.Common.{◌∙◌, arith}
use Rattle.chain.specs.Chain.{chain, ahead}
use Rattle.chain.specs.First.{or_else, first, search}
use Rattle.chain.specs.Nth.{nth}
use Rattle.chain.specs.Found.{Found}
use Rattle.chain.proofs.laws.Chain.{chain-end, chain-more}
use Rattle.chain.proofs.laws.First.{or_else-left, or_else-right}
use Rattle.chain.proofs.laws.Places.{count-end, count-more}

-- a loop over a range goes one place at a time
pub one-grows : (p : ℕ) → p < ahead 1 p
one-grows p = omega arith

-- ---- a search: `search rule next end p ≡ r`
module _ (rule : ℕ → Found) (next : ℕ → ℕ) (end : ℕ) (grows : (p : ℕ) → p < next p) where
  pub search-end : (p : ℕ) → end ≤ p → search rule next end p ≡ None
  unfolding first
  search-end p h = rw (chain-end next end grows p h)

  pub search-more : (p : ℕ) → p < end → search rule next end p ≡ or_else (rule p) (search rule next end (next p))
  unfolding first
  search-more p h = rw (chain-more next end grows p h)

  here : (p : ℕ) (f : Found) → p < end → rule p ≡ f → or_else f (search rule next end (next p)) ≡ search rule next end p
  here p f h e = sym (search-more p h ∙ ap (λ (g : Found). or_else g (search rule next end (next p))) e)

  -- the item at p keeps the rule: on to q
  pub turn : (p q : ℕ) {r : Found} → p < end → rule p ≡ None → q ≡ next p → search rule next end p ≡ r → search rule next end q ≡ r
  turn p q h e n inv = ap (search rule next end) n ∙ here p None h e ∙ inv

  -- it breaks the rule: this is the answer
  pub hit : (p q : ℕ) {r : Found} → p < end → rule p ≡ Some q → search rule next end p ≡ r → Some q ≡ r
  hit p q h e inv = here p (Some q) h e ∙ inv

  -- the same by the library's test of what the rule says there
  pub hit-some : (p : ℕ) (f : Found) {r : Found} → p < end → f ≡ rule p → is_some f ≡ true → search rule next end p ≡ r → f ≡ r
  hit-some p (Some q) h e s inv = hit p q h (sym e) inv
  hit-some p None h e s inv = cc

  pub turn-none : (p q : ℕ) (f : Found) {r : Found} → p < end → f ≡ rule p → is_some f ≡ false → q ≡ next p → search rule next end p ≡ r → search rule next end q ≡ r
  turn-none p q None h e s n inv = turn p q h (sym e) n inv
  turn-none p q (Some f) h e s n inv = cc

  -- no item is left: nothing was found
  pub done : (p : ℕ) {r : Found} → end ≤ p → search rule next end p ≡ r → None ≡ r
  done p h inv = sym (search-end p h) ∙ inv

  -- a rule known to find nothing from p on is not broken at p, and finds nothing from the next place on
  pub clear-here : (p : ℕ) → p < end → search rule next end p ≡ None → rule p ≡ None
  clear-here p h e = or_else-left (rule p) (search rule next end (next p)) (sym (search-more p h) ∙ e)

  pub clear-on : (p q : ℕ) → p < end → q ≡ next p → search rule next end p ≡ None → search rule next end q ≡ None
  clear-on p q h n e =
      ap (search rule next end) n ∙ or_else-right (rule p) (search rule next end (next p)) (sym (search-more p h) ∙ e)

module _ (next : ℕ → ℕ) (end : ℕ) (grows : (p : ℕ) → p < next p) where
  -- ---- a count in n: `n + length (chain next end p) ≡ r`
  pub count-turn : (n p q : ℕ) {r : ℕ} → p < end → q ≡ next p → n + length (chain next end p) ≡ r → n + 1 + length (chain next end q) ≡ r
  count-turn n p q h e inv = rw e (omega (arith, count-more next end grows p h, inv))

  pub count-done : (n p : ℕ) {r : ℕ} → end ≤ p → n + length (chain next end p) ≡ r → n ≡ r
  count-done n p h inv = omega (arith, count-end next end grows p h, inv)

  -- ---- the place at a number, n counted down: `nth (chain next end p) n ≡ r`
  nth-less : (x : ℕ) (xs : List ℕ) (n : ℕ) → 0 < n → nth (x ∷ xs) n ≡ nth xs (n - 1)
  unfolding nth
  nth-less x xs zero h = absurd (omega arith)
  nth-less x xs (suc n) h = ap (nth xs) (omega arith)

  pub nth-turn : (n p q : ℕ) {r : Found} → p < end → 0 < n → q ≡ next p → nth (chain next end p) n ≡ r → nth (chain next end q) (n - 1) ≡ r
  nth-turn n p q h k e inv =
      ap (λ (x : ℕ). nth (chain next end x) (n - 1)) e ∙ sym (nth-less p (chain next end (next p)) n k)
      ∙ ap (λ (l : List ℕ). nth l n) (sym (chain-more next end grows p h)) ∙ inv

  pub nth-hit : (n p : ℕ) {r : Found} → p < end → n ≡ 0 → nth (chain next end p) n ≡ r → Some p ≡ r
  unfolding nth
  nth-hit n p h z inv = sym (rw (z, chain-more next end grows p h)) ∙ inv

  pub nth-done : (n p : ℕ) {r : Found} → end ≤ p → nth (chain next end p) n ≡ r → None ≡ r
  unfolding nth
  nth-done n p h inv = sym (rw (chain-end next end grows p h)) ∙ inv
