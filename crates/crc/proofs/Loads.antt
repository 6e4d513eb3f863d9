-- The number that four and eight bytes spell, as `from_le_bytes` adds it up, is `little` of them.
-- Assumes nothing.
use mathlib.Core.Path.{◌≡◌, refl}
use mathlib.Core.List.{List, [], ◌∷◌}
use Prim.Native.Nat.{ℕ, zero, suc, ◌+◌, ◌*◌}
use native.Mathlib.Omega.{arith}
use lib.ListN.{length, get_or, drop, length-drop}
use Rattle.std.specs.Int.{w32, w64, from_le_bytes}
use Rattle.octets.specs.Bytes.{little}

-- a byte, and what stands above it; past the end both are 0
little-drop : (i : ℕ) (bs : List ℕ) → little (drop i bs) ≡ get_or bs i 0 + 256 * little (drop (suc i) bs)
little-drop zero [] = refl
little-drop zero (b ∷ bs) = refl
little-drop (suc i) [] = refl
little-drop (suc i) (b ∷ bs) = little-drop i bs

-- nothing spells 0
little-none : (bs : List ℕ) → length bs ≡ 0 → little bs ≡ 0
little-none [] h = refl
little-none (b ∷ bs) h = absurd (omega arith)

pub little-four : (bs : List ℕ) → length bs ≡ 4 → from_le_bytes w32 bs ≡ little bs
little-four bs h =
    omega (arith, little-drop 0 bs, little-drop 1 bs, little-drop 2 bs, little-drop 3 bs, little-none (drop 4 bs) (omega (arith, length-drop 4 bs)))

pub little-eight : (bs : List ℕ) → length bs ≡ 8 → from_le_bytes w64 bs ≡ little bs
little-eight bs h =
    omega (
      arith,
      little-drop 0 bs,
      little-drop 1 bs,
      little-drop 2 bs,
      little-drop 3 bs,
      little-drop 4 bs,
      little-drop 5 bs,
      little-drop 6 bs,
      little-drop 7 bs,
      little-none (drop 8 bs) (omega (arith, length-drop 8 bs)),
    )
