-- CRC-8 of the polynomial x^8 + x^2 + x + 1, highest bit first, from 0 and with nothing inverted: the remainder of a long division.
--
-- A polynomial over GF(2) is the number whose binary digits are its coefficients: the divisor is 1_0000_0111 in binary, and a remainder, of degree
-- below 8, is a number below 2 ^ 8. To subtract is to add is `bit_xor`.
-- Assumes nothing.
use mathlib.Core.List.{List, [], ◌∷◌, ◌++◌, foldl}
use Rattle.std.specs.Prelude.{ℕ, ◌+◌, ◌*◌, ◌/◌, ◌%◌, ◌^◌, replicate}
use Rattle.std.specs.Int.Bits.{bit_xor}

-- the divisor, x^8 + x^2 + x + 1
abbrev pub divisor : ℕ
divisor = 0b1_0000_0111

-- the quotient's next digit is the coefficient of x^8, 0 or 1, and that many times the divisor is taken away
unfoldable pub reduce : ℕ → ℕ
reduce n = bit_xor n (n / 2 ^ 8 * divisor)

-- one step of the division: a bit is brought down beside the remainder r
unfoldable pub bring : ℕ → ℕ → ℕ
bring r bit = reduce (r * 2 + bit)

-- what is left of r after the bits are brought down, first to last
abbrev pub divide : ℕ → List ℕ → ℕ
divide r bits = foldl bring r bits

-- the bits of a byte, highest first
unfoldable pub bits_of : ℕ → List ℕ
bits_of b = b / 128 % 2 ∷ b / 64 % 2 ∷ b / 32 % 2 ∷ b / 16 % 2 ∷ b / 8 % 2 ∷ b / 4 % 2 ∷ b / 2 % 2 ∷ b % 2 ∷ []

-- the bits of a message, highest first
unfoldable pub bits_of_all : List ℕ → List ℕ
bits_of_all [] = []
bits_of_all (b ∷ bs) = bits_of b ++ bits_of_all bs

-- the check value: the remainder of the message with eight zero bits after it
unfoldable pub crc8 : List ℕ → ℕ
crc8 bs = divide 0 (bits_of_all bs ++ replicate 8 0)

-- what is left of r after eight zero bits
abbrev pub eight_zeros : ℕ → ℕ
eight_zeros r = divide r (replicate 8 0)

-- one byte more, from the check value c of those before it: `crc8-step` of laws/Crc8 proves crc8 (bs ++ b) = step8 (crc8 bs) b
unfoldable pub step8 : ℕ → ℕ → ℕ
step8 c b = eight_zeros (bit_xor c b)

-- the check value after the bytes, from the check value c of those before them
abbrev pub run8 : ℕ → List ℕ → ℕ
run8 c bs = foldl step8 c bs
