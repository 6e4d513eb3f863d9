-- Laws of exclusive or: what it makes of the last bits and of the rest, the middle two of four change places, and a bit times a number is spread over it.
-- Assumes nothing.
use Rattle.std.specs.Prelude.{◌≡◌, refl, ℕ, zero, suc, ◌*◌, ◌/◌, ◌%◌, ◌<◌}
use Rattle.std.proofs.Common.{sym, ap, ◌∙◌, mod-lt, zero-lt-suc, le_of_suc-le-suc, not-suc-le-zero, zero-mul, arith}
use Rattle.std.proofs.Math.Arith.{digits_mod}
use Rattle.std.specs.Int.Bits.{bit_xor, differ, xor_step, xor_self, xor_zero_r, xor_assoc}
use Rattle.std.proofs.lemmas.Nat.{xor_shr, xor_comm}

-- a fact of 0 and of 1 is one of each bit
pub bit-ind : (P : ℕ → Type 0) → P 0 → P 1 → (x : ℕ) → x < 2 → P x
bit-ind P a b zero h = a
bit-ind P a b (suc zero) h = b
bit-ind P a b (suc (suc x)) h = absurd (not-suc-le-zero (le_of_suc-le-suc (le_of_suc-le-suc h)))

-- a last bit is one
pub odd-lt : (a : ℕ) → a % 2 < 2
odd-lt a = mod-lt a (zero-lt-suc 1)

-- and so is the sum of two bits
pub differ-lt : (x y : ℕ) → x < 2 → y < 2 → differ x y < 2
differ-lt x y hx hy =
    bit-ind (λ (x : ℕ). differ x y < 2) hy (bit-ind (λ (y : ℕ). differ 1 y < 2) (omega arith) (omega arith) y hy) x hx

-- of three bits
differ-assoc : (x y z : ℕ) → x < 2 → y < 2 → z < 2 → differ (differ x y) z ≡ differ x (differ y z)
differ-assoc x y z hx hy hz =
    bit-ind (λ (x : ℕ). differ (differ x y) z ≡ differ x (differ y z)) refl
    (bit-ind (λ (y : ℕ). differ (differ 1 y) z ≡ differ 1 (differ y z)) refl
    (bit-ind (λ (z : ℕ). differ (differ 1 1) z ≡ differ 1 (differ 1 z)) refl refl z hz) y hy) x hx

-- all but the last bit
pub xor-half : (a b : ℕ) → bit_xor a b / 2 ≡ bit_xor (a / 2) (b / 2)
xor-half a b = xor_shr a b 1

-- the last bit
pub xor-odd : (a b : ℕ) → bit_xor a b % 2 ≡ differ (a % 2) (b % 2)
xor-odd a b =
    ap (λ (x : ℕ). x % 2) (xor_step a b)
    ∙ digits_mod (bit_xor (a / 2) (b / 2)) (differ-lt (a % 2) (b % 2) (odd-lt a) (odd-lt b))

-- of three numbers
pub xor-assoc : (a b c : ℕ) → bit_xor (bit_xor a b) c ≡ bit_xor a (bit_xor b c)
xor-assoc = xor_assoc

-- the middle two of four change places
pub xor4 : (a b c d : ℕ) → bit_xor (bit_xor a b) (bit_xor c d) ≡ bit_xor (bit_xor a c) (bit_xor b d)
xor4 a b c d =
    xor_assoc a b (bit_xor c d)
    ∙ ap (bit_xor a) (sym (xor_assoc b c d) ∙ ap (λ (x : ℕ). bit_xor x d) (xor_comm b c) ∙ xor_assoc c b d)
    ∙ sym (xor_assoc a c (bit_xor b d))

-- a bit times p
pub bit-mul : (p x y : ℕ) → x < 2 → y < 2 → differ x y * p ≡ bit_xor (x * p) (y * p)
bit-mul p x y hx hy =
    bit-ind (λ (x : ℕ). differ x y * p ≡ bit_xor (x * p) (y * p)) (simp zero-mul)
    (bit-ind (λ (y : ℕ). differ 1 y * p ≡ bit_xor (1 * p) (y * p)) (simp (zero-mul, xor_zero_r)) (simp (zero-mul, xor_self)) y hy) x hx
