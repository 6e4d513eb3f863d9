-- The split of a pool into texts and the places of its strings are one thing: text n is what lies at place n, the end mark cleared.
-- By induction over the bytes from the last to the first. Assumes nothing.
use Prim.Native.Nat.{ℕ, zero, suc, ◌+◌, ◌-◌, ◌≤◌, ◌<◌}
use Rattle.std.specs.Prelude.{Bool, List, [], ◌∷◌, map, ◌≡◌}
use Rattle.std.proofs.Math.Bool.{true, false, cond}
use Rattle.std.proofs.Common.{inl, inr, ap₂, ◌∙◌}
use Rattle.std.proofs.Math.Path.{refl, sym, ap}
use native.Mathlib.Omega.{arith}
use Rattle.std.proofs.Math.ListN.{length}
use Rattle.std.proofs.lemmas.List.{length-map}
use Rattle.chain.specs.Chain.{chain}
use Rattle.chain.specs.Fill.{tab}
use Rattle.chain.proofs.laws.Below.{below}
use Rattle.chain.proofs.laws.Chain.{chain-end, chain-more}
use Rattle.chain.proofs.laws.Fill.{tab-from}
use Rattle.octets.specs.Bytes.{byte, run}
use Rattle.tiny_layout.specs.Strings.{is_marked, letter, in_front, split, texts, string_end, strings, span_at, text_of}
use Rattle.tiny_layout.specs.declared.Pool.{Pool}
use Rattle.tiny_layout.proofs.laws.Strings.{string-grows, string-ends, string-goes-on, string-cut}

-- the text of the string at p
abbrev pub text_at : List ℕ → ℕ → ℕ → List ℕ
text_at s to p = text_of s (span_at s to p)

module _ (s : List ℕ) where
  -- the text from p up to q: the character at p, and the text from the next place on
  text-front : (p q : ℕ) → p < q → text_of s (record { place = p; length = q - p }) ≡ letter (byte s p) ∷ text_of s (record { place = p + 1; length = q - (p + 1) })
  text-front p q h =
      let e : q - p ≡ suc (q - (p + 1)) = omega arith in
      ap (tab (λ i. letter (byte s (p + i)))) e ∙ tab-from (λ i. letter (byte s i)) p (q - (p + 1))

  -- a text of one character
  text-one : (p q : ℕ) → q ≡ p + 1 → text_of s (record { place = p; length = q - p }) ≡ letter (byte s p) ∷ []
  unfolding tab
  text-one p q e =
      let z : q - (p + 1) ≡ 0 = omega arith in
      text-front p q (omega arith) ∙ ap (λ n. letter (byte s p) ∷ text_of s (record { place = p + 1; length = n })) z

  module _ (to : ℕ) where
    -- the texts of the strings from p on
    abbrev placed : ℕ → List (List ℕ)
    placed p = map (text_at s to) (chain (string_end s to) to p)

    placed-more : (p : ℕ) → p < to → placed p ≡ text_at s to p ∷ placed (string_end s to p)
    placed-more p h = ap (map (text_at s to)) (chain-more (string_end s to) to (string-grows s to) p h)

    placed-end : (p : ℕ) → to ≤ p → placed p ≡ []
    placed-end p h = ap (map (text_at s to)) (chain-end (string_end s to) to (string-grows s to) p h)

    -- a string of one byte, and those after it
    one-byte : (p : ℕ) (rest : List (List ℕ)) → p < to → string_end s to p ≡ p + 1 → rest ≡ placed (p + 1) → (letter (byte s p) ∷ []) ∷ rest ≡ placed p
    one-byte p rest h e r =
        ap₂ (λ (t : List ℕ) (ts : List (List ℕ)). t ∷ ts) (sym (text-one p (string_end s to p) e)) (r ∙ ap placed (sym e))
        ∙ sym (placed-more p h)

    -- a string of more bytes
    more-bytes : (p : ℕ) (rest : List (List ℕ)) → p + 1 < to → string_end s to p ≡ string_end s to (p + 1) → rest ≡ placed (p + 1) → in_front (letter (byte s p)) rest ≡ placed p
    more-bytes p rest h e r =
        ap (in_front (letter (byte s p))) (r ∙ placed-more (p + 1) h)
        ∙ ap₂ (λ (t : List ℕ) (ts : List (List ℕ)). t ∷ ts)
        (ap (λ q. letter (byte s p) ∷ text_of s (record { place = p + 1; length = q - (p + 1) })) (sym e) ∙ sym (text-front p (string_end s to p) (string-grows s to p)))
        (ap placed (sym e))
        ∙ sym (placed-more p (omega arith))

    -- the last byte of the pool ends its string, marked or not
    last-byte : (b : Bool) (p : ℕ) → p + 1 ≡ to → cond b ((letter (byte s p) ∷ []) ∷ []) (in_front (letter (byte s p)) []) ≡ placed p
    last-byte true p h = one-byte p [] (omega arith) (string-cut s to p h) (sym (placed-end (p + 1) (omega arith)))
    last-byte false p h = one-byte p [] (omega arith) (string-cut s to p h) (sym (placed-end (p + 1) (omega arith)))

    split-placed : (n p : ℕ) → p + n ≡ to → split (run s p n) ≡ placed p
    unfolding split tab
    split-placed zero p h = sym (placed-end p (omega arith))
    split-placed (suc zero) p h = ap split (tab-from (byte s) p zero) ∙ last-byte (is_marked (byte s p)) p (omega arith)
    split-placed (suc (suc n)) p h =
        ap split (tab-from (byte s) p (suc n)) ∙ go (is_marked (byte s p)) refl (split-placed (suc n) (p + 1) (omega arith))
      where
        go : (b : Bool) → is_marked (byte s p) ≡ b → split (run s (p + 1) (suc n)) ≡ placed (p + 1) → cond b ((letter (byte s p) ∷ []) ∷ split (run s (p + 1) (suc n))) (in_front (letter (byte s p)) (split (run s (p + 1) (suc n)))) ≡ placed p
        go true m r = one-byte p (split (run s (p + 1) (suc n))) (omega arith) (string-ends s to p (omega arith) m) r
        go false m r = more-bytes p (split (run s (p + 1) (suc n))) (omega arith) (string-goes-on s to p (omega arith) m) r

-- the texts of a pool are what lies at the places of its strings
pub texts-placed : (s : List ℕ) (pool : Pool) → texts s pool ≡ map (text_at s pool.to) (strings s pool)
unfolding texts split tab
texts-placed s pool =
    elim (below pool.from pool.to) [
      | inl h ↦ split-placed s pool.to (pool.to - pool.from) pool.from (omega arith)
      | inr h ↦ nothing h
    ]
  where
    nothing : pool.to ≤ pool.from → split (run s pool.from (pool.to - pool.from)) ≡ map (text_at s pool.to) (strings s pool)
    nothing h = let z : pool.to - pool.from ≡ 0 = omega arith in ap (λ n. split (run s pool.from n)) z ∙ sym (placed-end s pool.to pool.from h)

-- and the string count is their number
pub texts-count : (s : List ℕ) (pool : Pool) → length (texts s pool) ≡ length (strings s pool)
texts-count s pool = ap length (texts-placed s pool) ∙ length-map (strings s pool) (text_at s pool.to)
