-- Four lanes over a block of four words: a block keeps `Stand` (`lanes-turn`), and a last block brings the lanes together (`lanes-end`).
-- Assumes nothing.
use mathlib.Core.Path.{◌≡◌, refl, sym, ap, ◌∙◌}
use mathlib.Core.List.{List, [], ◌∷◌}
use Prim.Native.Nat.{ℕ}
use native.Mathlib.Omega.{arith}
use lib.Bits.{bit_xor, xor_assoc, xor_zero_r}
use lib.ListN.{get_or}
use Rattle.octets.specs.Bytes.{little}
use Rattle.crc.specs.Crc32.{shifts, run32}
use Rattle.crc.specs.Tables.{Stand}
use Rattle.crc.proofs.Braid.{shifts-zero, mix, sequence, braid-turn, braid-end}
use Rattle.crc.proofs.Runs.{Word, run-more, Block}

-- four lanes in a list
mix-four : (a0 a1 a2 a3 : ℕ) → mix (λ (x : ℕ). x) (a0 ∷ a1 ∷ a2 ∷ a3 ∷ []) ≡ bit_xor (shifts 192 a0) (bit_xor (shifts 128 a1) (bit_xor (shifts 64 a2) a3))
unfolding shifts
mix-four a0 a1 a2 a3 = ap (λ (x : ℕ). bit_xor (shifts 192 a0) (bit_xor (shifts 128 a1) (bit_xor (shifts 64 a2) x))) (xor_zero_r a3)

module _ (R a0 a1 a2 a3 : ℕ) (s : List ℕ) (ws : List (List ℕ)) (B : Block s ws) (st : Stand a0 a1 a2 a3 R) where
  -- word k of the block, and what it spells
  abbrev w : ℕ → List ℕ
  w k = get_or ws k []

  abbrev n : ℕ → ℕ
  n k = little (w k)

  -- each lane with its word
  pairs : List (ℕ × ℕ)
  pairs = (a0, n 0) ∷ (a1, n 1) ∷ (a2, n 2) ∷ (a3, n 3) ∷ []

  run-pairs : run32 R s ≡ sequence (λ p. p.1) R pairs
  unfolding pairs
  run-pairs =
      sym (B.run R) ∙ run-more _ (w 3) (B.word 3 (omega arith))
      ∙ ap (λ (x : ℕ). shifts 64 (bit_xor x (n 3)))
      (run-more _ (w 2) (B.word 2 (omega arith))
      ∙ ap (λ (x : ℕ). shifts 64 (bit_xor x (n 2)))
      (run-more _ (w 1) (B.word 1 (omega arith)) ∙ ap (λ (x : ℕ). shifts 64 (bit_xor x (n 1))) (run-more R (w 0) (B.word 0 (omega arith)))))

  -- each lane takes its word, and is shifted by all four
  pub lanes-turn : (b0 b1 b2 b3 : ℕ) → b0 ≡ shifts 256 (bit_xor a0 (n 0)) → b1 ≡ shifts 256 (bit_xor a1 (n 1))
      → b2 ≡ shifts 256 (bit_xor a2 (n 2)) → b3 ≡ shifts 256 (bit_xor a3 (n 3))
      → Stand b0 b1 b2 b3 (run32 R s)
  unfolding pairs
  lanes-turn b0 b1 b2 b3 e0 e1 e2 e3 =
      record {
        stands =
            sym (mix-four b0 b1 b2 b3)
            ∙ rw (e0, e1, e2, e3)
            (braid-turn (λ p. p.0) (λ p. p.1) pairs R 192 refl (mix-four a0 a1 a2 a3 ∙ st.stands) ∙ ap (shifts 192) (sym run-pairs));
      }

  -- a word from the register r and the lane a
  on : (r a x y : ℕ) (w : List ℕ) → Word w → y ≡ run32 (bit_xor r a) w → r ≡ x → y ≡ shifts 64 (bit_xor x (bit_xor a (little w)))
  on r a x y w h e p =
      e ∙ run-more (bit_xor r a) w h
      ∙ ap (shifts 64) (xor_assoc r a (little w) ∙ ap (λ (n : ℕ). bit_xor n (bit_xor a (little w))) p)

  -- the lanes come together
  pub lanes-end : (r0 r1 r2 r3 : ℕ) → r0 ≡ run32 a0 (w 0) → r1 ≡ run32 (bit_xor r0 a1) (w 1) → r2 ≡ run32 (bit_xor r1 a2) (w 2)
      → r3 ≡ run32 (bit_xor r2 a3) (w 3) → r3 ≡ run32 R s
  unfolding pairs
  lanes-end r0 r1 r2 r3 e0 e1 e2 e3 =
      on r2 a3 _ r3 (w 3) (B.word 3 (omega arith)) e3 (on r1 a2 _ r2 (w 2) (B.word 2 (omega arith)) e2 (on r0 a1 _ r1 (w 1) (B.word 1 (omega arith)) e1 (e0 ∙ run-more a0 (w 0) (B.word 0 (omega arith)))))
      ∙ braid-end (λ p. p.0) (λ p. p.1) pairs R 192 refl (mix-four a0 a1 a2 a3 ∙ st.stands) ∙ sym run-pairs

-- where the loop begins the first lane has the register
pub lanes-start : (c : ℕ) → Stand c 0 0 0 c
lanes-start c = record { stands = simp (shifts-zero, xor_zero_r) }
