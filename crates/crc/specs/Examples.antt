-- The check values of the nine bytes "123456789" that catalogues of CRCs give, and a few small ones.
-- Assumes nothing.
use Rattle.std.specs.Prelude.{◌≡◌, refl, List, [], ◌∷◌, ℕ}
use Rattle.crc.specs.Blank.{blank}
use Rattle.crc.specs.Crc8.{crc8, reduce, bring, bits_of, bits_of_all}
use Rattle.crc.specs.Crc32.{crc32, shift, shifts, step32}

-- "123456789"
abbrev digits : List ℕ
digits = 0x31 ∷ 0x32 ∷ 0x33 ∷ 0x34 ∷ 0x35 ∷ 0x36 ∷ 0x37 ∷ 0x38 ∷ 0x39 ∷ []

crc8-digits : crc8 digits ≡ 0xF4
unfolding crc8 reduce bring bits_of bits_of_all
crc8-digits = refl

-- the byte 1: x^8 leaves x^2 + x + 1
crc8-one : crc8 (1 ∷ []) ≡ 7
unfolding crc8 reduce bring bits_of bits_of_all
crc8-one = refl

crc32-digits : crc32 digits ≡ 0xCBF4_3926
unfolding crc32 shift shifts step32
crc32-digits = refl

crc32-empty : crc32 [] ≡ 0
unfolding crc32
crc32-empty = refl

-- a field inside the list, and one that the list ends in
blank-inside : blank 1 2 (7 ∷ 7 ∷ 7 ∷ 7 ∷ []) ≡ 7 ∷ 0 ∷ 0 ∷ 7 ∷ []
blank-inside = refl

blank-short : blank 1 2 (7 ∷ 7 ∷ []) ≡ 7 ∷ 0 ∷ []
blank-short = refl
