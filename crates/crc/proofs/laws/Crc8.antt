-- The laws of CRC-8: one byte more is added to the check value of those before it, so a message may come in parts.
-- Assumes nothing.
use Rattle.std.specs.Prelude.{◌≡◌, ℕ, zero, suc, ◌<◌, replicate}
use Rattle.std.proofs.Common.{sym, ap, ◌∙◌, arith}
use mathlib.Core.List.{List, [], ◌∷◌, ◌++◌, foldl-append, append_assoc, append-nil}
use Rattle.std.specs.Int.Bits.{bit_xor}
use Rattle.octets.specs.Bytes.{Octets}
use Rattle.crc.specs.Crc8.{reduce, bring, divide, bits_of, bits_of_all, crc8, step8, run8}
use Rattle.crc.proofs.laws.Remainder.{divide-lt, divide-beside, zero-bits, bits-of-all, bits-append, bits-append-all}

-- one byte more
pub crc8-step : (bs : List ℕ) (b : ℕ) → b < 256 → crc8 (bs ++ (b ∷ [])) ≡ step8 (crc8 bs) b
unfolding crc8 step8 bits_of_all
crc8-step bs b h =
    let r = divide 0 (bits_of_all bs) in
    foldl-append bring 0 (bits_of_all (bs ++ (b ∷ []))) (replicate 8 0)
    ∙ ap (λ (n : ℕ). divide n (replicate 8 0))
    (ap (divide 0) (bits-append-all bs (b ∷ []) ∙ ap (λ (l : List ℕ). bits_of_all bs ++ l) (append-nil (bits_of b)))
    ∙ foldl-append bring 0 (bits_of_all bs) (bits_of b)
    ∙ divide-beside r b (divide-lt (bits-of-all bs) 0 (omega arith)) h
    ∙ ap (λ (n : ℕ). bit_xor n b) (sym (foldl-append bring 0 (bits_of_all bs) (replicate 8 0))))

-- a message in two parts
pub crc8-append : (xs ys : List ℕ) → Octets ys → crc8 (xs ++ ys) ≡ run8 (crc8 xs) ys
crc8-append xs [] h = ap crc8 (append-nil xs)
crc8-append xs (y ∷ ys) h =
    ap crc8 (sym (append_assoc xs (y ∷ []) ys)) ∙ crc8-append (xs ++ (y ∷ [])) ys (λ p. h (suc p))
    ∙ ap (λ (c : ℕ). run8 c ys) (crc8-step xs y (h zero))

-- from the start
pub crc8-run : (s : List ℕ) → Octets s → crc8 s ≡ run8 0 s
unfolding crc8 bits_of_all bring reduce
crc8-run s h = crc8-append [] s h

-- a check value is a byte
pub crc8-below : (s : List ℕ) → crc8 s < 256
unfolding crc8
crc8-below s = divide-lt (bits-append (bits-of-all s) (zero-bits 8)) 0 (omega arith)
