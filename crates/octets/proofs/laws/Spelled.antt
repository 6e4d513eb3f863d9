-- The number that bytes spell, and the bytes that spell a number, are inverse to each other. Assumes nothing.
use Rattle.std.specs.Prelude.{ℕ, zero, suc, ◌+◌, ◌*◌, ◌/◌, ◌%◌, ◌^◌, ◌<◌, List, [], ◌∷◌, ◌≡◌, refl, length}
use Rattle.std.proofs.Common.{sym, ap, ap₂, ◌∙◌, arith}
use Rattle.std.proofs.Math.Nat.{pow-suc, pow-succ', div-div-eq-div-mul}
use Rattle.std.specs.Int.{byte_at, bytes_low_first}
use Rattle.octets.specs.Bytes.{Octets, run, little, spelled, le64}
use Rattle.octets.proofs.laws.Bytes.{length-run, run-octets}

-- bytes are those that spell their number
pub spelled-little : (l : List ℕ) → Octets l → spelled (length l) (little l) ≡ l
unfolding spelled
spelled-little [] h = refl
spelled-little (b ∷ bs) h =
    let low : (b + 256 * little bs) % 256 ≡ b = omega (arith, h zero) in
    let high : (b + 256 * little bs) / 256 ≡ little bs = omega (arith, h zero) in
    ap₂ (λ (x : ℕ) (xs : List ℕ). x ∷ xs) low (ap (spelled (length bs)) high ∙ spelled-little bs (λ p. h (suc p)))

-- and spell it
pub little-spelled : (n m : ℕ) → m < 256 ^ n → little (spelled n m) ≡ m
unfolding spelled
little-spelled zero m h = omega arith
little-spelled (suc n) m h =
    let fits : m / 256 < 256 ^ n = omega (arith, h, pow-succ' 256 n) in
    ap (λ (x : ℕ). m % 256 + 256 * x) (little-spelled n (m / 256) fits) ∙ omega arith

-- bytes of one count that spell one number are the same
pub little-injective : (l m : List ℕ) → Octets l → Octets m → length l ≡ length m → little l ≡ little m → l ≡ m
little-injective l m h k same e = sym (spelled-little l h) ∙ ap₂ spelled same e ∙ spelled-little m k

-- a number of eight bytes is spelled by the eight bytes at its place
pub spelled-le64 : (s : List ℕ) (p : ℕ) → Octets s → spelled 8 (le64 s p) ≡ run s p 8
unfolding le64
spelled-le64 s p h =
    ap (λ (n : ℕ). spelled n (little (run s p 8))) (sym (length-run s p 8)) ∙ spelled-little (run s p 8) (run-octets s p 8 h)

-- std's k low bytes of a number, from byte i upward, spell what is left of it without the i lowest
bytes-from : (i k n : ℕ) → bytes_low_first i k n ≡ spelled k (n / 256 ^ i)
unfolding spelled
bytes-from i zero n = refl
bytes-from i (suc k) n =
    let rest : n / 256 ^ suc i ≡ n / 256 ^ i / 256 = ap (λ (m : ℕ). n / m) (pow-suc 256 i) ∙ sym (div-div-eq-div-mul n (256 ^ i) 256) in
    ap₂ (λ (x : ℕ) (xs : List ℕ). x ∷ xs) (first i) (bytes-from (suc i) k n ∙ ap (spelled k) rest)
  where
    first : (j : ℕ) → byte_at j n ≡ n / 256 ^ j % 256
    first zero = omega arith
    first (suc j) = refl

-- so its k low bytes are those that spell it
pub low-bytes : (k n : ℕ) → bytes_low_first 0 k n ≡ spelled k n
low-bytes k n = bytes-from 0 k n ∙ ap (spelled k) (omega arith)
