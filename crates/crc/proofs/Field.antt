-- A run of CRC-32 over a list with four bytes counted as zero, in three parts: before the field, so many zeros as the list has of it, and behind it.
-- The parts' ends are cut to the list's length.
-- Assumes nothing.
use Prim.Native.Nat.{ℕ, zero, suc, ◌-◌, min}
use mathlib.Core.List.{List, [], ◌∷◌, map}
use mathlib.Core.Path.{◌≡◌, refl, sym, ap, ap₂, ◌∙◌}
use native.Mathlib.Nat.{le_of_eq}
use native.Mathlib.Omega.{arith}
use lib.ListN.{length, take, drop, replicate, length-take, length-drop}
use lib.Seq.{take_all}
use Rattle.std.proofs.lemmas.List.{take_min, drop_min}
use Rattle.crc.specs.Blank.{blank}
use Rattle.crc.specs.Crc32.{step32, run32}
use Rattle.crc.proofs.laws.Blank.{fold-blank}

-- a field as zeros is so many zeros as there are bytes in it
zeros-part : (n : ℕ) (l : List ℕ) → map {B = ℕ} (λ b. 0) (take n l) ≡ take (length (take n l)) (replicate n 0)
zeros-part zero l = refl
zeros-part (suc n) [] = refl
zeros-part (suc n) (b ∷ l) = ap (λ (r : List ℕ). 0 ∷ r) (zeros-part n l)

-- the parts as the code has them
module _ (at end : ℕ) (s : List ℕ) (ha : at ≡ min 20 (length s)) (he : end ≡ min 24 (length s)) where
  field-size : end - at ≡ length (take 4 (drop 20 s))
  field-size = simp (length-take, length-drop) (omega arith)

  field : take (end - at) (replicate 4 0) ≡ map {B = ℕ} (λ b. 0) (take 4 (drop 20 s))
  field = ap (λ (n : ℕ). take n (replicate 4 0)) field-size ∙ sym (zeros-part 4 (drop 20 s))

  before : take at s ≡ take 20 s
  before = ap (λ (n : ℕ). take n s) ha ∙ take_min 20 s

  behind : take (length s - end) (drop end s) ≡ drop 24 s
  behind = take_all (length s - end) (drop end s) (le_of_eq (length-drop end s)) ∙ ap (λ (n : ℕ). drop n s) he ∙ drop_min 24 s

  -- three runs, one after the other
  pub run-blank : (c a b r : ℕ) → a ≡ run32 c (take at s) → b ≡ run32 a (take (end - at) (replicate 4 0))
      → r ≡ run32 b (take (length s - end) (drop end s)) → r ≡ run32 c (blank 20 4 s)
  run-blank c a b r pa pb pr =
      pr ∙ ap₂ run32 (pb ∙ ap₂ run32 (pa ∙ ap (run32 c) before) field) behind
      ∙ sym (fold-blank step32 c 20 4 s)
