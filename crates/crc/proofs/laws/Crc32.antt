-- The laws of CRC-32's register: to shift is linear, what stands n places up comes down in n shifts, and a register stays below 2 ^ 32.
-- Assumes nothing.
use Rattle.std.specs.Prelude.{◌≡◌, refl, ℕ, zero, suc, ◌+◌, ◌*◌, ◌/◌, ◌%◌, ◌^◌, ◌<◌}
use Rattle.std.proofs.Common.{sym, ap, ap₂, ◌∙◌, mul_assoc, mul-one, pow-suc, mul-div_cancel, zero-lt-suc, zero-add, suc-add, arith}
use mathlib.Core.List.{List, [], ◌∷◌, ◌++◌, foldl-append}
use Rattle.std.proofs.Math.Nat.{mul-mod_left}
use Rattle.std.specs.Int.Bits.{bit_xor, xor_zero_r}
use Rattle.std.proofs.lemmas.Nat.{xor_lt}
use Rattle.octets.specs.Bytes.{Octets}
use Rattle.crc.specs.Crc32.{poly, shift, shifts, step32, run32, crc32}
use Rattle.crc.proofs.laws.Xor.{odd-lt, xor-half, xor-odd, xor4, bit-mul}

-- one bit of a sum
shift-xor : (a b : ℕ) → shift (bit_xor a b) ≡ bit_xor (shift a) (shift b)
unfolding shift
shift-xor a b =
    ap₂ (λ (x y : ℕ). bit_xor x (y * poly)) (xor-half a b) (xor-odd a b)
    ∙ ap (bit_xor (bit_xor (a / 2) (b / 2))) (bit-mul poly (a % 2) (b % 2) (odd-lt a) (odd-lt b))
    ∙ xor4 (a / 2) (b / 2) (a % 2 * poly) (b % 2 * poly)

-- n bits of a sum
pub shifts-xor : (n a b : ℕ) → shifts n (bit_xor a b) ≡ bit_xor (shifts n a) (shifts n b)
unfolding shifts
shifts-xor zero a b = refl
shifts-xor (suc n) a b = ap (shifts n) (shift-xor a b) ∙ shifts-xor n (shift a) (shift b)

-- m bits and then n
pub shifts-add : (m n a : ℕ) → shifts (m + n) a ≡ shifts n (shifts m a)
unfolding shifts
shifts-add zero n a = ap (λ (k : ℕ). shifts k a) (zero-add n)
shifts-add (suc m) n a = ap (λ (k : ℕ). shifts k a) (suc-add m n) ∙ shifts-add m n (shift a)

-- an even number loses its zero
shift-even : (a : ℕ) → shift (a * 2) ≡ a
unfolding shift
shift-even a =
    ap₂ (λ (x y : ℕ). bit_xor x (y * poly)) (mul-div_cancel a (zero-lt-suc 1)) (mul-mod_left a 2)
    ∙ xor_zero_r a

-- what stands n places up comes down
pub shifts-up : (n a : ℕ) → shifts n (a * 2 ^ n) ≡ a
unfolding shifts
shifts-up zero a = mul-one a
shifts-up (suc n) a =
    ap (λ (x : ℕ). shifts n (shift x)) (ap (λ (x : ℕ). a * x) (pow-suc 2 n) ∙ sym (mul_assoc a (2 ^ n) 2))
    ∙ ap (shifts n) (shift-even (a * 2 ^ n)) ∙ shifts-up n a

-- a message in two parts
pub run32-append : (c : ℕ) (xs ys : List ℕ) → run32 c (xs ++ ys) ≡ run32 (run32 c xs) ys
run32-append c xs ys = foldl-append step32 c xs ys

shift-below : (c : ℕ) → c < 2 ^ 32 → shift c < 2 ^ 32
unfolding shift
shift-below c h = xor_lt 32 (c / 2) (c % 2 * poly) (omega arith) (omega arith)

shifts-below : (n c : ℕ) → c < 2 ^ 32 → shifts n c < 2 ^ 32
unfolding shifts
shifts-below zero c h = h
shifts-below (suc n) c h = shifts-below n (shift c) (shift-below c h)

-- a register is of 32 bits
pub run32-below : (c : ℕ) (s : List ℕ) → c < 2 ^ 32 → Octets s → run32 c s < 2 ^ 32
unfolding step32
run32-below c [] l h = l
run32-below c (b ∷ s) l h =
    let m : b < 256 = h zero in
    run32-below (step32 c b) s (shifts-below 8 (bit_xor c b) (xor_lt 32 c b l (omega arith))) (λ p. h (suc p))

-- and so is a check value
pub crc32-below : (s : List ℕ) → Octets s → crc32 s < 2 ^ 32
unfolding crc32
crc32-below s h = xor_lt 32 (run32 0xFFFF_FFFF s) 0xFFFF_FFFF (run32-below 0xFFFF_FFFF s (omega arith) h) (omega arith)
