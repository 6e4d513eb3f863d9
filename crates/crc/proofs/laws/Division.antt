-- `divide` of specs/Crc8.antt divides: the message is the quotient times the divisor plus the remainder, as polynomials over GF(2), and the remainder is
-- of a degree below the divisor's. By induction over the bits: what stands so far is a product and a remainder.
-- Assumes nothing.
use Rattle.std.specs.Prelude.{ℕ, ◌+◌, ◌*◌, ◌/◌, ◌<◌, List, ◌++◌, ◌≡◌, refl, replicate}
use Rattle.std.proofs.Common.{sym, ap, ◌∙◌, add-zero, arith}
use Rattle.std.specs.Int.Bits.{bit_xor, xor_self, xor_zero_r}
use Rattle.std.proofs.lemmas.Nat.{xor_block}
use Rattle.crc.specs.Crc8.{divisor, reduce, bring, divide, bits_of_all, crc8}
use Rattle.crc.specs.Division.{value, quotient, product}
use Rattle.crc.proofs.laws.Remainder.{Bits, no-bits, bit, divide-lt, zero-bits, bits-append, bits-of-all}
use Rattle.crc.proofs.laws.Xor.{xor4}

-- from a product p and a remainder r on
divides-from : {bs : List ℕ} → Bits bs → (n p r : ℕ) → n ≡ bit_xor p r → value n bs ≡ bit_xor (product p (quotient r bs)) (divide r bs)
unfolding bring reduce
divides-from no-bits n p r e = e
divides-from (bit {x = b} h t) n p r e =
    let m : ℕ = r * 2 + b in
    let d : ℕ = m / 256 * divisor in
    divides-from t (n * 2 + b) (bit_xor (p * 2) d) (bit_xor m d)
    (ap (λ (x : ℕ). x * 2 + b) e ∙ sym (xor_block 1 p r 0 b (omega arith) h) ∙ ap (λ (x : ℕ). bit_xor x m) (add-zero (p * 2))
    ∙ sym (xor_zero_r (bit_xor (p * 2) m)) ∙ ap (bit_xor (bit_xor (p * 2) m)) (sym (xor_self d)) ∙ xor4 (p * 2) m d d)

-- from the start
pub divides : {bs : List ℕ} → Bits bs → value 0 bs ≡ bit_xor (product 0 (quotient 0 bs)) (divide 0 bs)
divides h = divides-from h 0 0 0 refl

-- the remainder is of a degree below 8
pub remainder-lt : {bs : List ℕ} → Bits bs → divide 0 bs < 256
remainder-lt h = divide-lt h 0 (omega arith)

-- so a check value is the remainder of its message with eight zero bits after it
pub crc8-divides : (s : List ℕ)
    → value 0 (bits_of_all s ++ replicate 8 0) ≡ bit_xor (product 0 (quotient 0 (bits_of_all s ++ replicate 8 0))) (crc8 s)
unfolding crc8
crc8-divides s = divides (bits-append (bits-of-all s) (zero-bits 8))
