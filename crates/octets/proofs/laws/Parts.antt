-- The number of eight bytes holds those of fewer bytes in it: its first byte, the two numbers of two bytes in its low half, and its high half. And what is
-- read in a part of an image from a place on is what is read in the image. Assumes nothing.
use Rattle.std.specs.Prelude.{ℕ, zero, suc, ◌+◌, ◌/◌, ◌%◌, ◌≤◌, List, [], ◌∷◌, ◌≡◌, refl, length, take, drop}
use Rattle.std.proofs.Math.Path.{ap}
use Rattle.std.proofs.Common.{◌∙◌, add-zero, arith, get_or-take, get_or-drop}
use Rattle.std.proofs.Math.Seq.{take-nil}
use Rattle.chain.specs.Fill.{tab}
use Rattle.chain.proofs.laws.Fill.{tab-agree}
use Rattle.octets.specs.Bytes.{byte, Octets, run, little, le16, le32, le64}
use Rattle.octets.proofs.laws.Bytes.{le32-halves, le64-halves, le16-below, le32-below}

module _ (s : List ℕ) (octets : Octets s) (p : ℕ) where
  pub le64-low : le64 s p % 65536 ≡ le16 s p
  le64-low = omega (arith, le64-halves s p, le32-halves s p, le16-below s octets p)

  pub le64-next : le64 s p / 65536 % 65536 ≡ le16 s (p + 2)
  le64-next = omega (arith, le64-halves s p, le32-halves s p, le16-below s octets p, le16-below s octets (p + 2))

  pub le64-high : le64 s p / 4294967296 ≡ le32 s (p + 4)
  le64-high = omega (arith, le64-halves s p, le32-below s octets p)

  pub le64-first : le64 s p % 256 ≡ byte s p
  unfolding le16 tab
  le64-first = omega (arith, le64-low, octets (p + 0), octets (p + 1), ap (byte s) (add-zero p))

-- ---- the bytes from p on
pub run-drop : (s : List ℕ) (p o n : ℕ) → run (drop p s) o n ≡ run s (p + o) n
run-drop s p o n =
    tab-agree (λ i. byte (drop p s) (o + i)) (λ i. byte s (p + o + i)) n (λ i l. get_or-drop p s (o + i) 0 ∙ ap (byte s) (omega arith))

-- the first m of them, or as many as there are
module _ (m : ℕ) (s : List ℕ) (p o : ℕ) where
  run-part-at : (n : ℕ) → o + n ≤ m → run (take m (drop p s)) o n ≡ run s (p + o) n
  run-part-at n h =
      tab-agree (λ i. byte (take m (drop p s)) (o + i)) (λ i. byte (drop p s) (o + i)) n (λ i l. get_or-take m (drop p s) (o + i) 0 (omega arith))
      ∙ run-drop s p o n

  pub le16-part-at : o + 2 ≤ m → le16 (take m (drop p s)) o ≡ le16 s (p + o)
  unfolding le16
  le16-part-at h = ap little (run-part-at 2 h)

  pub le32-part-at : o + 4 ≤ m → le32 (take m (drop p s)) o ≡ le32 s (p + o)
  unfolding le32
  le32-part-at h = ap little (run-part-at 4 h)

  pub le64-part-at : o + 8 ≤ m → le64 (take m (drop p s)) o ≡ le64 s (p + o)
  unfolding le64
  le64-part-at h = ap little (run-part-at 8 h)

-- past the end there are none
drop-past : (p : ℕ) (s : List ℕ) → length s ≤ p → drop p s ≡ []
drop-past zero [] h = refl
drop-past zero (x ∷ s) h = absurd (omega arith)
drop-past (suc p) [] h = refl
drop-past (suc p) (x ∷ s) h = drop-past p s (omega arith)

pub part-past : (m p : ℕ) (s : List ℕ) → length s ≤ p → take m (drop p s) ≡ []
part-past m p s h = ap (take m) (drop-past p s h) ∙ take-nil m
