-- Where strings end: past their start, within their pool, and at the first marked byte. Assumes nothing.
use Rattle.std.specs.Prelude.{ℕ, ◌+◌, ◌≤◌, ◌<◌, true, false, List, ◌≡◌, Some, None}
use Rattle.std.proofs.Math.Path.{refl, ap}
use Rattle.std.proofs.Common.{◌∙◌}
use native.Mathlib.Omega.{arith}
use Rattle.chain.specs.All.{All}
use Rattle.chain.specs.Chain.{ahead, range}
use Rattle.chain.specs.First.{first, when, or_else}
use Rattle.chain.specs.Nth.{nth}
use Rattle.chain.specs.Found.{Found}
use Rattle.chain.proofs.laws.Loops.{one-grows, search-end, search-more}
use Rattle.chain.proofs.laws.Nth.{nth-all}
use Rattle.chain.proofs.laws.Places.{chain-within}
use Rattle.chain.proofs.laws.Ranges.{Least, range-least}
use Rattle.octets.specs.Bytes.{byte}
use Rattle.tiny_layout.specs.Strings.{is_marked, mark, past_mark, string_end, strings}
use Rattle.tiny_layout.specs.declared.Pool.{Pool}

module _ (s : List ℕ) (to : ℕ) where
  -- what is found lies from p up to the pool's end
  found : (p q : ℕ) → first (mark s) (range p to) ≡ Some q → (p ≤ q) × (q < to)
  found p q e =
      let l : Least (λ i. is_marked (byte s i)) (λ i. i) p to q = range-least (λ i. is_marked (byte s i)) (λ i. i) to p q e in
      (omega (arith, l.from, l.stands), omega (arith, l.to, l.stands))

  pub string-grows : (p : ℕ) → p < string_end s to p
  unfolding string_end
  string-grows p = go (first (mark s) (range p to)) refl
    where
      go : (f : Found) → first (mark s) (range p to) ≡ f → p < past_mark to p f
      go (Some q) e = omega (arith, (found p q e).0)
      go None e = omega arith

  -- a string that starts before the pool's end ends within the pool
  pub string-fits : (p : ℕ) → p < to → string_end s to p ≤ to
  unfolding string_end
  string-fits p h = go (first (mark s) (range p to)) refl
    where
      go : (f : Found) → first (mark s) (range p to) ≡ f → past_mark to p f ≤ to
      go (Some q) e = omega (arith, (found p q e).1)
      go None e = omega arith

  -- a marked byte ends its string
  pub string-ends : (p : ℕ) → p < to → is_marked (byte s p) ≡ true → string_end s to p ≡ p + 1
  unfolding string_end
  string-ends p h m =
      ap (past_mark to p) (search-more (mark s) (ahead 1) to one-grows p h ∙ ap (λ b. or_else (when b p) (first (mark s) (range (p + 1) to))) m)

  -- any other is followed by the rest of its string, if one byte of the pool is left
  pub string-goes-on : (p : ℕ) → p + 1 < to → is_marked (byte s p) ≡ false → string_end s to p ≡ string_end s to (p + 1)
  unfolding string_end
  string-goes-on p h m =
      ap (past_mark to p) (search-more (mark s) (ahead 1) to one-grows p (omega arith) ∙ ap (λ b. or_else (when b p) (first (mark s) (range (p + 1) to))) m)
      ∙ go (first (mark s) (range (p + 1) to))
    where
      go : (f : Found) → past_mark to p f ≡ past_mark to (p + 1) f
      go (Some q) = refl
      go None = omega arith

  -- and ends it where none is
  pub string-cut : (p : ℕ) → p + 1 ≡ to → string_end s to p ≡ p + 1
  string-cut p h = omega (arith, string-grows p, string-fits p (omega arith))

  -- past the pool each byte counts as a string of its own
  pub string-past : (p : ℕ) → to ≤ p → string_end s to p ≡ p + 1
  unfolding string_end
  string-past p h = ap (past_mark to p) (search-end (mark s) (ahead 1) to one-grows p h) ∙ omega arith

-- each string starts within its pool
pub strings-within : (s : List ℕ) (pool : Pool) → All (λ p. (pool.from ≤ p) × (p < pool.to)) (strings s pool)
strings-within s pool = chain-within (string_end s pool.to) pool.to (string-grows s pool.to) pool.from

pub string-within : (s : List ℕ) (pool : Pool) (n p : ℕ) → nth (strings s pool) n ≡ Some p → (pool.from ≤ p) × (p < pool.to)
string-within s pool n p e = nth-all (λ q. (pool.from ≤ q) × (q < pool.to)) (strings s pool) n p (strings-within s pool) e
