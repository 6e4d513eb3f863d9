-- Division of polynomials over GF(2) on paper: what the bits of a message stand for, the quotient by the divisor, and its product with the divisor.
-- The law `crc8-divides` of laws/Division is stated with these; no contract cites them. Assumes nothing.
use Rattle.std.specs.Prelude.{ℕ, ◌+◌, ◌*◌, ◌/◌}
use mathlib.Core.List.{List, [], ◌∷◌, foldl}
use Rattle.std.specs.Int.Bits.{bit_xor}
use Rattle.crc.specs.Crc8.{divisor, bring}

-- the polynomial whose coefficients are those of n and then the bits, highest first
abbrev pub value : ℕ → List ℕ → ℕ
value n bits = foldl (λ (m b : ℕ). m * 2 + b) n bits

-- the quotient's digits, highest first
abbrev pub quotient : ℕ → List ℕ → List ℕ
quotient r [] = []
quotient r (b ∷ bs) = (r * 2 + b) / 256 ∷ quotient (bring r b) bs

-- the product with the divisor, digit by digit as on paper
abbrev pub product : ℕ → List ℕ → ℕ
product p [] = p
product p (q ∷ qs) = product (bit_xor (p * 2) (q * divisor)) qs
