-- Laws of the list that a number's bits mark: every list has such a number, below 2 ^ 17, and higher bits count for nothing.
-- Bit i + 1 of a number is bit i of its half. By this, inductions over the place of a bit show that a multiple of 2 ^ k changes no bit below k, and
-- that what a table's marks spell in binary has the marks as its bits. Assumes nothing.
use Rattle.std.specs.Prelude.{ℕ, zero, suc, ◌+◌, ◌*◌, ◌/◌, ◌%◌, ◌^◌, ◌<◌, ◌≡◌, refl, Bool, true, false, cond, ◌&&◌, List, [], ◌∷◌, ◌++◌, eqb, ltb, length}
use Rattle.std.proofs.Common.{sym, ◌∙◌, ap, mul_assoc, arith, eq-eqb, ne_eqb, ltb-true}
use Rattle.std.proofs.Math.Path.{fun_ext}
use Rattle.std.proofs.Math.Nat.{pow-succ', div-div-eq-div-mul, zero-div, mod-add-div}
use Rattle.kinds.specs.declared.Kinds.{Kinds}
use Rattle.kinds.specs.Kinds.{Row, tags, signatures, bit, picked_at, from_bits, binary, bits_of}

-- bit i + 1 of a number is bit i of its half
bit-suc : (n i : ℕ) → bit n (suc i) ≡ bit (n / 2) i
bit-suc n i = rw (pow-succ' 2 i, ← div-div-eq-div-mul n 2 (2 ^ i))

double : (k q : ℕ) → 2 ^ suc k * q ≡ 2 * (2 ^ k * q)
double k q = rw (pow-succ' 2 k, mul_assoc 2 (2 ^ k) q)

-- a multiple of 2 ^ k changes no bit below k
bit-low : (i k r q : ℕ) → i < k → bit (r + 2 ^ k * q) i ≡ bit r i
bit-low i zero r q h = absurd (omega arith)
bit-low zero (suc k) r q h =
    let e : (r + 2 ^ suc k * q) / 1 % 2 ≡ r / 1 % 2 = omega (arith, double k q) in ap (λ (n : ℕ). eqb n 1) e
bit-low (suc i) (suc k) r q h =
    let e : (r + 2 ^ suc k * q) / 2 ≡ r / 2 + 2 ^ k * q = omega (arith, double k q) in
    bit-suc (r + 2 ^ suc k * q) i
    ∙ (ap (λ (n : ℕ). bit n i) e ∙ (bit-low i k (r / 2) q (omega arith) ∙ sym (bit-suc r i)))

-- the mark of row i of a table; false past its end
mark_at : List Row → ℕ → Bool
mark_at [] i = false
mark_at (row ∷ rows) zero = row.1
mark_at (row ∷ rows) (suc i) = mark_at rows i

lowest : (b : Bool) (m : ℕ) → bit (cond b 1 0 + 2 * m) 0 ≡ b
lowest true m = eq-eqb ((1 + 2 * m) / 1 % 2) 1 (omega arith)
lowest false m = ne_eqb ((0 + 2 * m) / 1 % 2) 1 (omega arith)

half : (b : Bool) (m : ℕ) → (cond b 1 0 + 2 * m) / 2 ≡ m
half true m = omega arith
half false m = omega arith

-- the bits of a table's number are its marks
bit-binary : (rows : List Row) (i : ℕ) → bit (binary rows) i ≡ mark_at rows i
unfolding binary mark_at
bit-binary [] i = rw (zero-div (2 ^ i))
bit-binary (row ∷ rows) zero = lowest row.1 (binary rows)
bit-binary (row ∷ rows) (suc i) =
    bit-suc (binary (row ∷ rows)) i ∙ (ap (λ (n : ℕ). bit n i) (half row.1 (binary rows)) ∙ bit-binary rows i)

below : (b : Bool) (m p : ℕ) → m < p → cond b 1 0 + 2 * m < 2 * p
below true m p h = omega arith
below false m p h = omega arith

-- a table's number has as many bits as the table has rows
binary-below : (rows : List Row) → binary rows < 2 ^ length rows
unfolding binary
binary-below [] = omega arith
binary-below (row ∷ rows) =
    rw (pow-succ' 2 (length rows)) (below row.1 (binary rows) (2 ^ length rows) (binary-below rows))

-- two tests that agree below 17 pick the same list
picked-same : (f g : ℕ → Bool) → ((i : ℕ) → i < 17 → f i ≡ g i) → picked_at f ≡ picked_at g
unfolding picked_at
picked-same f g h = ap picked_at (fun_ext (λ i. agree i (ltb i 17) refl))
  where
    agree : (i : ℕ) (b : Bool) → ltb i 17 ≡ b → (b && f i) ≡ (b && g i)
    agree i true e = h i (ltb-true i 17 e)
    agree i false e = refl

-- every list is that of its number
pub from-bits : (k : Kinds) → from_bits (bits_of k) ≡ k
unfolding from_bits bits_of mark_at
from-bits k = ap picked_at (fun_ext (bit-binary (tags k ++ signatures k)))

-- that number has at most seventeen bits
pub bits-below : (k : Kinds) → bits_of k < 2 ^ 17
unfolding bits_of
bits-below k = binary-below (tags k ++ signatures k)

-- higher bits count for nothing
pub high-bits : (n : ℕ) → from_bits n ≡ from_bits (n % 2 ^ 17)
unfolding from_bits
high-bits n =
    picked-same
    (bit n)
    (bit (n % 2 ^ 17))
    (λ i h. ap (λ (m : ℕ). bit m i) (sym (mod-add-div n (2 ^ 17))) ∙ bit-low i 17 (n % 2 ^ 17) (n / 2 ^ 17) h)
