-- CRC-32 of IEEE 802.3, bit by bit: reflected, so the lowest bit of a byte goes first and the coefficient of x^31 is the lowest bit of the register.
-- The register starts with all ones, and is inverted at the end.
-- Assumes nothing.
use mathlib.Core.List.{List, foldl}
use Rattle.std.specs.Prelude.{ℕ, zero, suc, ◌*◌, ◌/◌, ◌%◌}
use Rattle.std.specs.Int.Bits.{bit_xor}

-- the polynomial 04C11DB7h, its 32 bits in reverse
abbrev pub poly : ℕ
poly = 0xEDB8_8320

-- one bit: the register is shifted down, and where a one falls out the polynomial is added
unfoldable pub shift : ℕ → ℕ
shift c = bit_xor (c / 2) (c % 2 * poly)

-- n bits
unfoldable pub shifts : ℕ → ℕ → ℕ
shifts zero c = c
shifts (suc n) c = shifts n (shift c)

-- one byte: it is added to the register's low bits, and eight bits are shifted out
unfoldable pub step32 : ℕ → ℕ → ℕ
step32 c b = shifts 8 (bit_xor c b)

-- the register after the bytes, from c
abbrev pub run32 : ℕ → List ℕ → ℕ
run32 c bs = foldl step32 c bs

-- the check value
unfoldable pub crc32 : List ℕ → ℕ
crc32 bs = bit_xor (run32 0xFFFF_FFFF bs) 0xFFFF_FFFF
