-- Two images where parts of them agree. Where the head of an item does, both have the same item there: tag, data length and end; where the heads along the
-- items do, both have the same items and the same pool; and where a pool's bytes do, it has the same strings in both. In images that agree on the first
-- one's L bytes all of these agree: what is lent past them is not read. Assumes nothing.
use Rattle.std.specs.Prelude.{ℕ, ◌+◌, ◌-◌, ◌/◌, ◌≤◌, ◌<◌, Bool, ◌&&◌, ◌≡◌, eqb, Some, None}
use Rattle.std.proofs.Math.Bool.{true, false, cond}
use mathlib.Core.List.{List}
use Rattle.std.proofs.Math.Path.{refl, ap, ap₂}
use Rattle.std.proofs.Common.{◌∙◌, arith}
use Rattle.chain.specs.All.{All}
use Rattle.chain.specs.Chain.{chain, ahead}
use Rattle.chain.specs.First.{first, when}
use Rattle.chain.specs.Nth.{nth}
use Rattle.chain.specs.Found.{Found}
use Rattle.chain.proofs.laws.Agree.{chain-agree, search-agree}
use Rattle.chain.proofs.laws.All.{all-map}
use Rattle.chain.proofs.laws.Fill.{tab-agree}
use Rattle.chain.proofs.laws.First.{first-agree}
use Rattle.chain.proofs.laws.Loops.{one-grows}
use Rattle.chain.proofs.laws.Places.{chain-all}
use Rattle.kinds.specs.Kinds.{listed}
use Rattle.kinds.specs.declared.Kind.TheVariants.{Tag}
use Rattle.kinds.specs.declared.Kinds.{Kinds}
use Rattle.octets.specs.Bytes.{byte}
use Rattle.octets.proofs.laws.Same.{Same, same-part}
use Rattle.tiny_layout.specs.Layout.{total, check_place, is_long, head_size, data_length, data_at, next, items}
use Rattle.tiny_layout.specs.Pool.{known_of, pool_at, pool}
use Rattle.tiny_layout.specs.Strings.{is_marked, letter, mark, split, texts, past_mark, string_end, strings, span_at, text_of, reference_at, reference}
use Rattle.tiny_layout.specs.declared.Pool.{Pool}
use Rattle.tiny_layout.proofs.laws.Layout.{head-bounds, data-after, next-grows, items-within}
use Rattle.tiny_layout.proofs.laws.Pool.{known-holds}
use Rattle.tiny_layout.proofs.laws.Strings.{string-grows, string-fits, string-within}

-- ---- at an item whose head agrees: its tag, and the length byte of a long one
module _ (s t : List ℕ) (p : ℕ) (head : Same s t p (data_at s p)) where
  -- the tag
  pub tag-same : byte s p ≡ byte t p
  tag-same = head p (omega arith) (data-after s p)

  -- how many data bytes there are
  pub length-same : data_length s p ≡ data_length t p
  unfolding data_length head_size
  length-same = go (is_long (byte s p)) refl ∙ ap (λ (tag : ℕ). cond (is_long tag) (byte t (p + 1)) (tag / 16)) tag-same
    where
      go : (b : Bool) → is_long (byte s p) ≡ b → cond b (byte s (p + 1)) (byte s p / 16) ≡ cond b (byte t (p + 1)) (byte s p / 16)
      go true e = head (p + 1) (omega arith) (rw e (omega arith))
      go false e = refl

  -- where the data begin, and where the item ends
  pub data-same : data_at s p ≡ data_at t p
  data-same = ap (λ (tag : ℕ). p + head_size tag) tag-same

  pub next-same : next s p ≡ next t p
  unfolding next
  next-same = ap₂ (λ (tag n : ℕ). p + (head_size tag + n)) tag-same length-same

-- ---- where L agrees, and the heads along the items
module _ (s t : List ℕ) (totals : total s ≡ total t) (heads : All (λ p. Same s t p (data_at s p)) (items s)) where
  -- the same places of items
  pub items-agree : items s ≡ items t
  items-agree =
      chain-agree (next s) (next t) (check_place s) (next-grows s) (next-grows t) 3
      (all-map (λ p. Same s t p (data_at s p)) (λ p. next s p ≡ next t p) (next-same s t) (items s) heads)
      ∙ ap (λ (n : ℕ). chain (next t) (n - 1) 3) totals

  -- the same first known item of a tag
  known-agree : (k : Kinds) (tag : ℕ) → first (known_of k s tag) (items s) ≡ first (known_of k t tag) (items t)
  known-agree k tag =
      first-agree (known_of k s tag) (known_of k t tag) (items s)
      (all-map (λ p. Same s t p (data_at s p)) (λ p. known_of k s tag p ≡ known_of k t tag p)
      (λ p head. ap (λ (b : ℕ). when (listed k (Tag tag) && eqb b tag) p) (tag-same s t p head)) (items s) heads)
      ∙ ap (first (known_of k t tag)) items-agree

  -- each list has the same pool
  pub pool-agree : (k : Kinds) → pool k s ≡ pool k t
  unfolding pool
  pool-agree k = go (first (known_of k s 0x01) (items s)) refl ∙ ap (pool_at t) (known-agree k 0x01)
    where
      go : (f : Found) → first (known_of k s 0x01) (items s) ≡ f → pool_at s f ≡ pool_at t f
      go (Some p) e =
          let head : Same s t p (data_at s p) = (known-holds k s 0x01 p (λ q. Same s t q (data_at s q)) heads e).2 in
          ap₂ (λ (a b : ℕ). record { from = a; to = b }) (data-same s t p head) (next-same s t p head)
      go None e = refl

-- ---- the strings of a pool whose bytes agree
module _ (s t : List ℕ) (x : Pool) (same : Same s t x.from x.to) where
  -- each string ends at the same place
  string-same : (p : ℕ) → x.from ≤ p → string_end s x.to p ≡ string_end t x.to p
  unfolding string_end
  string-same p h =
      ap (past_mark x.to p)
      (search-agree (mark s) (mark t) (ahead 1) x.to one-grows p (λ q a b. ap (λ (c : ℕ). when (is_marked c) q) (same q (omega arith) b)))

  -- the same places of strings
  pub strings-same : strings s x ≡ strings t x
  strings-same =
      chain-agree (string_end s x.to) (string_end t x.to) x.to (string-grows s x.to) (string-grows t x.to) x.from
      (chain-all (string_end s x.to) x.to (string-grows s x.to) (λ p. string_end s x.to p ≡ string_end t x.to p) x.from (λ p a _. string-same p a))

  -- the same texts
  pub texts-same : texts s x ≡ texts t x
  unfolding texts
  texts-same =
      ap split (tab-agree (λ i. byte s (x.from + i)) (λ i. byte t (x.from + i)) (x.to - x.from) (λ i h. same (x.from + i) (omega arith) (omega arith)))

  -- each reference is the same, and so is its text
  pub reference-same : (n : ℕ) → reference s x n ≡ reference t x n
  unfolding reference
  reference-same n = go (nth (strings s x) n) refl ∙ ap (λ (l : List ℕ). reference_at t x (nth l n)) strings-same
    where
      go : (f : Found) → nth (strings s x) n ≡ f → reference_at s x f ≡ reference_at t x f
      go (Some p) e = ap (λ (q : ℕ). Some (record { place = p; length = q - p })) (string-same p (string-within s x n p e).0)
      go None e = refl

  pub text-same : (n p : ℕ) → nth (strings s x) n ≡ Some p → text_of s (span_at s x.to p) ≡ text_of t (span_at s x.to p)
  text-same n p e =
      let w = string-within s x n p e in
      tab-agree (λ i. letter (byte s (p + i))) (λ i. letter (byte t (p + i))) (string_end s x.to p - p)
      (λ i h. ap letter (same (p + i) (omega (arith, w.0)) (omega (arith, h, string-fits s x.to p w.1))))

-- ---- images that agree on the L bytes
module _ (s t : List ℕ) (long : 4 ≤ total s) (same : Same s t 0 (total s)) where
  -- the same total length L, and the same place of the check byte
  pub total-same : total s ≡ total t
  total-same = same 2 (omega arith) (omega arith)

  pub check-same : check_place s ≡ check_place t
  check-same = ap (λ (n : ℕ). n - 1) total-same

  -- a part of the L bytes agrees, and so does the head of each item: the length byte of a long tag lies within the L bytes too
  pub part-same : (a b : ℕ) → b ≤ total s → Same s t a b
  part-same a b h = same-part s t 0 (total s) a b (omega arith) h same

  pub heads-same : All (λ p. Same s t p (data_at s p)) (items s)
  heads-same =
      all-map (λ p. (3 ≤ p) × (p < check_place s)) (λ p. Same s t p (data_at s p))
      (λ p w. part-same p (data_at s p) (omega (arith, w.1, (head-bounds (byte s p)).1))) (items s) (items-within s)

  -- so both have the same items, and each list has the same pool
  pub items-same : items s ≡ items t
  items-same = items-agree s t total-same heads-same

  pub pool-same : (k : Kinds) → pool k s ≡ pool k t
  pool-same = pool-agree s t total-same heads-same
