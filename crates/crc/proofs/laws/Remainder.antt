-- The laws of CRC-8's division: a remainder stays below 256, a step is linear, and so is the division by bits one after the other. So the bits of a byte,
-- brought down beside a remainder, are added to what eight zero bits make of it (`divide-beside`).
-- Assumes nothing.
use Rattle.std.specs.Prelude.{◌≡◌, refl, List, [], ◌∷◌, ◌++◌, ℕ, zero, suc, ◌+◌, ◌*◌, ◌/◌, ◌%◌, ◌≤◌, ◌<◌, length, replicate}
use Rattle.std.proofs.Common.{sym, ap, ◌∙◌, append_assoc, arith}
use Rattle.std.specs.Int.Bits.{bit_xor, differ, xor_zero_r}
use Rattle.std.proofs.lemmas.Nat.{xor_lt, xor_shr, xor_block}
use Rattle.crc.specs.Crc8.{divisor, reduce, bring, divide, bits_of, bits_of_all}
use Rattle.crc.proofs.laws.Xor.{bit-ind, odd-lt, xor4, bit-mul}

-- the quotient's digit is a bit
top-bit : (n : ℕ) → n < 512 → n / 256 < 2
top-bit n h = omega arith

-- exclusive or of two bits
xor-bits : (x y : ℕ) → x < 2 → y < 2 → bit_xor x y ≡ differ x y
xor-bits x y hx hy =
    bit-ind (λ (x : ℕ). bit_xor x y ≡ differ x y) refl (bit-ind (λ (y : ℕ). bit_xor 1 y ≡ differ 1 y) refl refl y hy) x hx

-- nothing to take away
reduce-small : (n : ℕ) → n < 256 → reduce n ≡ n
unfolding reduce
reduce-small n h =
    let e : n / 256 ≡ 0 = omega arith in
    ap (λ (q : ℕ). bit_xor n (q * divisor)) e ∙ xor_zero_r n

-- a divisor to take away
large : (n : ℕ) → n < 512 → 256 ≤ n → bit_xor n divisor < 256
large n h l =
    let d : n ≡ 1 * 256 + n % 256 = omega arith in
    let e : bit_xor n divisor ≡ 0 * 256 + bit_xor (n % 256) (divisor % 256) =
    ap (λ (x : ℕ). bit_xor x divisor) d ∙ xor_block 8 1 1 (n % 256) (divisor % 256) (omega arith) (omega arith) in
    omega (arith, e, xor_lt 8 (n % 256) (divisor % 256) (omega arith) (omega arith))

-- what is left is below 256
reduce-lt : (n : ℕ) → n < 512 → reduce n < 256
unfolding reduce
reduce-lt n h =
    bit-ind (λ (q : ℕ). q ≡ n / 256 → bit_xor n (q * divisor) < 256) (λ e. omega (arith, xor_zero_r n)) (λ e. large n h (omega arith))
    (n / 256) (top-bit n h) refl

-- the step is additive
reduce-xor : (a b : ℕ) → a < 512 → b < 512 → reduce (bit_xor a b) ≡ bit_xor (reduce a) (reduce b)
unfolding reduce
reduce-xor a b ha hb =
    ap (λ (q : ℕ). bit_xor (bit_xor a b) (q * divisor)) (xor_shr a b 8 ∙ xor-bits (a / 256) (b / 256) (top-bit a ha) (top-bit b hb))
    ∙ ap (bit_xor (bit_xor a b)) (bit-mul divisor (a / 256) (b / 256) (top-bit a ha) (top-bit b hb))
    ∙ xor4 a b (a / 256 * divisor) (b / 256 * divisor)

-- a bit brought down beside a sum goes with one of the two
bring-xor : (r s x : ℕ) → r < 256 → s < 256 → x < 2 → bring (bit_xor r s) x ≡ bit_xor (bring r 0) (bring s x)
unfolding bring
bring-xor r s x hr hs hx =
    ap reduce (sym (xor_block 1 r s 0 x (omega arith) hx)) ∙ reduce-xor (r * 2 + 0) (s * 2 + x) (omega arith) (omega arith)

-- a remainder with a bit brought down stays below 256
pub bring-lt : (r x : ℕ) → r < 256 → x < 2 → bring r x < 256
unfolding bring
bring-lt r x hr hx = reduce-lt (r * 2 + x) (omega arith)

-- a bit brought down with nothing to take away
next : (p r x n : ℕ) → p ≡ r → n < 256 → r * 2 + x ≡ n → bring p x ≡ n
unfolding bring
next p r x n q h e = ap (λ (y : ℕ). reduce (y * 2 + x)) q ∙ ap reduce e ∙ reduce-small n h

-- a list of bits
pub data Bits : List ℕ → Type 0 where
  no-bits : Bits []
  bit : {x : ℕ} {xs : List ℕ} → x < 2 → Bits xs → Bits (x ∷ xs)

-- a remainder is below 256
pub divide-lt : {xs : List ℕ} → Bits xs → (r : ℕ) → r < 256 → divide r xs < 256
divide-lt no-bits r h = h
divide-lt (bit {x = x} hx t) r h = divide-lt t (bring r x) (bring-lt r x h hx)

-- bits brought down beside a sum go with one of the two
pub divide-xor : {xs : List ℕ} → Bits xs → (r s : ℕ) → r < 256 → s < 256
    → divide (bit_xor r s) xs ≡ bit_xor (divide r (replicate (length xs) 0)) (divide s xs)
divide-xor no-bits r s hr hs = refl
divide-xor (bit {x = x} {xs = xs} hx t) r s hr hs =
    ap (λ (n : ℕ). divide n xs) (bring-xor r s x hr hs hx)
    ∙ divide-xor t (bring r 0) (bring s x) (bring-lt r 0 hr (omega arith)) (bring-lt s x hs hx)

-- the bits of a byte
bits-of : (b : ℕ) → Bits (bits_of b)
unfolding bits_of
bits-of b =
    bit (odd-lt (b / 128)) (bit (odd-lt (b / 64)) (bit (odd-lt (b / 32)) (bit (odd-lt (b / 16))
    (bit (odd-lt (b / 8)) (bit (odd-lt (b / 4)) (bit (odd-lt (b / 2)) (bit (odd-lt b) no-bits)))))))

-- zero bits
pub zero-bits : (n : ℕ) → Bits (replicate n 0)
zero-bits zero = no-bits
zero-bits (suc n) = bit {x = 0} (omega arith) (zero-bits n)

-- the bits of two lists
pub bits-append : {xs ys : List ℕ} → Bits xs → Bits ys → Bits (xs ++ ys)
bits-append no-bits u = u
bits-append (bit h t) u = bit h (bits-append t u)

-- the bits of a message
pub bits-of-all : (bs : List ℕ) → Bits (bits_of_all bs)
unfolding bits_of_all
bits-of-all [] = no-bits
bits-of-all (b ∷ bs) = bits-append (bits-of b) (bits-of-all bs)

-- a byte's bits, brought down from nothing, are the byte
divide-byte : (b : ℕ) → b < 256 → divide 0 (bits_of b) ≡ b
unfolding bits_of
divide-byte b h =
    next _ (b / 2) _ b
    (next _ (b / 4) _ (b / 2)
    (next _ (b / 8) _ (b / 4)
    (next _ (b / 16) _ (b / 8)
    (next _ (b / 32) _ (b / 16)
    (next _ (b / 64) _ (b / 32)
    (next _ (b / 128) _ (b / 64)
    (next 0 0 _ (b / 128) refl (omega arith) (omega arith))
    (omega arith) (omega arith)) (omega arith) (omega arith)) (omega arith) (omega arith)) (omega arith) (omega arith)) (omega arith) (omega arith))
    (omega arith) (omega arith)) (omega arith) (omega arith)

-- so beside a remainder they are added to what eight zero bits make of it
pub divide-beside : (r b : ℕ) → r < 256 → b < 256 → divide r (bits_of b) ≡ bit_xor (divide r (replicate 8 0)) b
unfolding bits_of
divide-beside r b hr hb =
    ap (λ (n : ℕ). divide n (bits_of b)) (sym (xor_zero_r r)) ∙ divide-xor (bits-of b) r 0 hr (omega arith)
    ∙ ap (bit_xor (divide r (replicate 8 0))) (divide-byte b hb)

-- the bits of a message in two parts
pub bits-append-all : (xs bs : List ℕ) → bits_of_all (xs ++ bs) ≡ bits_of_all xs ++ bits_of_all bs
unfolding bits_of_all
bits-append-all [] bs = refl
bits-append-all (a ∷ xs) bs =
    ap (λ (l : List ℕ). bits_of a ++ l) (bits-append-all xs bs) ∙ sym (append_assoc (bits_of a) (bits_of_all xs) (bits_of_all bs))
