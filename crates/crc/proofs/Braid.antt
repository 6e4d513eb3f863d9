-- Lanes. A message of n words, eight bytes each, is run by `sequence`: each word is added to the register, which is then shifted by 64 bits. With lanes the
-- words go to n registers in turn, and a register is shifted at once by the 64 n bits until its next word. `mix` is what n lanes stand for. Since shifts are
-- linear, a word may be added to its lane in place of the register (`sum`).
-- Assumes nothing.
use mathlib.Core.Path.{◌≡◌, refl, sym, ap, ap₂, ◌∙◌}
use mathlib.Core.List.{List, [], ◌∷◌}
use Prim.Native.Nat.{ℕ, zero, suc, ◌+◌, ◌*◌}
use native.Mathlib.Nat.{add_comm}
use native.Mathlib.Omega.{arith}
use lib.Bits.{bit_xor, xor_assoc, xor_zero_r}
use lib.ListN.{length}
use Rattle.crc.specs.Crc32.{shift, shifts}
use Rattle.crc.proofs.laws.Xor.{xor4}
use Rattle.crc.proofs.laws.Crc32.{shifts-xor, shifts-add}

-- nothing stays nothing
pub shifts-zero : (n : ℕ) → shifts n 0 ≡ 0
unfolding shift shifts
shifts-zero zero = refl
shifts-zero (suc n) = shifts-zero n

shifts-comm : (m n a : ℕ) → shifts m (shifts n a) ≡ shifts n (shifts m a)
shifts-comm m n a = sym (shifts-add n m a) ∙ ap (λ (k : ℕ). shifts k a) (add_comm n m) ∙ shifts-add m n a

-- f says what a lane of the list l holds
module _ {A : Type 0} where
  -- the lanes as one register: each is behind by 64 bits for each lane after it
  abbrev pub mix : (A → ℕ) → List A → ℕ
  mix f [] = 0
  mix f (p ∷ l) = bit_xor (shifts (64 * length l) (f p)) (mix f l)

  -- the register r after the words
  abbrev pub sequence : (A → ℕ) → ℕ → List A → ℕ
  sequence f r [] = r
  sequence f r (p ∷ l) = sequence f (shifts 64 (bit_xor r (f p))) l

  -- lanes of sums
  mix-xor : (f g : A → ℕ) (l : List A) → mix (λ p. bit_xor (f p) (g p)) l ≡ bit_xor (mix f l) (mix g l)
  mix-xor f g [] = refl
  mix-xor f g (p ∷ l) =
      ap₂ bit_xor (shifts-xor (64 * length l) (f p) (g p)) (mix-xor f g l)
      ∙ xor4 (shifts (64 * length l) (f p)) (shifts (64 * length l) (g p)) (mix f l) (mix g l)

  -- lanes that are shifted
  mix-shifts : (m : ℕ) (f : A → ℕ) (l : List A) → mix (λ p. shifts m (f p)) l ≡ shifts m (mix f l)
  mix-shifts m f [] = sym (shifts-zero m)
  mix-shifts m f (p ∷ l) =
      ap₂ bit_xor (shifts-comm (64 * length l) m (f p)) (mix-shifts m f l) ∙ sym (shifts-xor m (shifts (64 * length l) (f p)) (mix f l))

  -- words one after the other are the words as lanes
  sequence-mix : (f : A → ℕ) (l : List A) (r : ℕ) → sequence f r l ≡ bit_xor (shifts (64 * length l) r) (shifts 64 (mix f l))
  unfolding shifts
  sequence-mix f [] r = sym (ap (bit_xor r) (shifts-zero 64) ∙ xor_zero_r r)
  sequence-mix f (p ∷ l) r =
      let n = 64 * length l in
      let e : 64 + 64 * length l ≡ 64 * suc (length l) = omega arith in
      sequence-mix f l (shifts 64 (bit_xor r (f p)))
      ∙ ap (λ (x : ℕ). bit_xor x (shifts 64 (mix f l)))
      (ap (shifts n) (shifts-xor 64 r (f p)) ∙ shifts-xor n (shifts 64 r) (shifts 64 (f p))
      ∙ ap₂ bit_xor (sym (shifts-add 64 n r) ∙ ap (λ (k : ℕ). shifts k r) e) (shifts-comm n 64 (f p)))
      ∙ xor_assoc (shifts (64 * suc (length l)) r) (shifts 64 (shifts n (f p))) (shifts 64 (mix f l))
      ∙ ap (bit_xor (shifts (64 * suc (length l)) r)) (sym (shifts-xor 64 (shifts n (f p)) (mix f l)))

  -- R is the register that the lanes f stand for, all but one word's shift; g the next words; q the bits of all lanes but one
  module _ (f g : A → ℕ) (l : List A) (R q : ℕ) (e : q + 64 ≡ 64 * length l) (h : mix f l ≡ shifts q R) where
    -- the words may be added to the lanes
    sum : sequence g R l ≡ shifts 64 (mix (λ p. bit_xor (f p) (g p)) l)
    sum =
        sequence-mix g l R
        ∙ ap (λ (x : ℕ). bit_xor x (shifts 64 (mix g l))) (ap (λ (k : ℕ). shifts k R) (sym e) ∙ shifts-add q 64 R ∙ ap (shifts 64) (sym h))
        ∙ sym (shifts-xor 64 (mix f l) (mix g l)) ∙ ap (shifts 64) (sym (mix-xor f g l))

    -- the words are added to the lanes, and each lane is shifted by them all
    pub braid-turn : mix (λ p. shifts (64 + q) (bit_xor (f p) (g p))) l ≡ shifts q (sequence g R l)
    braid-turn =
        mix-shifts (64 + q) (λ p. bit_xor (f p) (g p)) l ∙ shifts-add 64 q (mix (λ p. bit_xor (f p) (g p)) l) ∙ ap (shifts q) (sym sum)

    -- the lanes come together
    pub braid-end : sequence (λ p. bit_xor (f p) (g p)) 0 l ≡ sequence g R l
    braid-end =
        sequence-mix (λ p. bit_xor (f p) (g p)) l 0
        ∙ ap (λ (x : ℕ). bit_xor x (shifts 64 (mix (λ p. bit_xor (f p) (g p)) l))) (shifts-zero (64 * length l)) ∙ sym sum
