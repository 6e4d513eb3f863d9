-- Bytes of an image, and the numbers they spell. An image is a list of numbers below 256. Assumes nothing.
use Rattle.std.specs.Prelude.{ℕ, zero, suc, ◌+◌, ◌*◌, ◌/◌, ◌%◌, ◌<◌, List, [], ◌∷◌, get_or}
use Rattle.chain.specs.Fill.{tab}

-- the byte at place p; past the end it reads as 0
abbrev pub byte : List ℕ → ℕ → ℕ
byte s p = get_or s p 0

-- each element is a byte
abbrev pub Octets : List ℕ → Type 0
Octets s = (p : ℕ) → byte s p < 256

-- the run of n bytes from place p on
abbrev pub run : List ℕ → ℕ → ℕ → List ℕ
run s p n = tab (λ i. byte s (p + i)) n

-- the number that bytes spell, the first lowest (little-endian)
abbrev pub little : List ℕ → ℕ
little [] = 0
little (b ∷ bs) = b + 256 * little bs

-- the n bytes that spell a number, the first lowest
unfoldable pub spelled : ℕ → ℕ → List ℕ
spelled zero m = []
spelled (suc n) m = m % 256 ∷ spelled n (m / 256)

-- the number of two, four, eight bytes at place p
unfoldable pub le16 : List ℕ → ℕ → ℕ
le16 s p = little (run s p 2)

unfoldable pub le32 : List ℕ → ℕ → ℕ
le32 s p = little (run s p 4)

unfoldable pub le64 : List ℕ → ℕ → ℕ
le64 s p = little (run s p 8)
