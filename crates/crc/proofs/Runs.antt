-- A run of CRC-32 over bytes: bytes all at once, as the number that they spell (`run-word`), and in chunks of so many (`run-chunks`).
-- Assumes nothing.
use Prim.Native.Nat.{ℕ, zero, suc, ◌+◌, ◌*◌, ◌/◌, ◌≤◌, ◌<◌}
use mathlib.Core.List.{List, [], ◌∷◌}
use mathlib.Core.Path.{◌≡◌, refl, sym, ap, ◌∙◌}
use native.Mathlib.Nat.{le_of_eq, zero-mul, suc-mul, add_comm}
use native.Mathlib.Omega.{arith}
use lib.Bits.{bit_xor, xor_assoc, xor_comm, xor_zero_r, xor_shifted}
use lib.ListN.{length, get_or, take, drop, take-append-drop, length-drop}
use lib.Seq.{drop-drop}
use Rattle.std.proofs.lemmas.List.{drop_all, length-take-le}
use Rattle.std.specs.List.{fold}
use Rattle.std.specs.Simd.{first_chunks}
use Rattle.octets.specs.Bytes.{Octets, little}
use Rattle.octets.proofs.laws.Bytes.{octets-take, octets-drop}
use Rattle.crc.specs.Crc32.{shifts, step32, run32}
use Rattle.crc.proofs.laws.Crc32.{shifts-xor, shifts-add, shifts-up, run32-append}

-- a byte, and what stands above it
step-word : (c b w : ℕ) → b < 256 → bit_xor (step32 c b) w ≡ shifts 8 (bit_xor c (b + 256 * w))
unfolding step32
step-word c b w h =
    let e : w * 256 + b ≡ b + 256 * w = omega arith in
    ap (bit_xor (shifts 8 (bit_xor c b))) (sym (shifts-up 8 w))
    ∙ sym (shifts-xor 8 (bit_xor c b) (w * 256))
    ∙ ap (shifts 8) (xor_assoc c b (w * 256) ∙ ap (bit_xor c) (xor_comm b (w * 256) ∙ xor_shifted w 8 b h ∙ e))

-- the bytes may be added all at once
run-word : (bs : List ℕ) → Octets bs → (c : ℕ) → run32 c bs ≡ shifts (8 * length bs) (bit_xor c (little bs))
unfolding shifts
run-word [] h c = sym (xor_zero_r c)
run-word (b ∷ bs) h c =
    let e : 8 + 8 * length bs ≡ 8 * suc (length bs) = omega arith in
    run-word bs (λ p. h (suc p)) (step32 c b)
    ∙ ap (shifts (8 * length bs)) (step-word c b (little bs) (h zero))
    ∙ sym (shifts-add 8 (8 * length bs) (bit_xor c (b + 256 * little bs)))
    ∙ ap (λ (k : ℕ). shifts k (bit_xor c (b + 256 * little bs))) e

-- n bytes that spell w
pub run-spelled : (c : ℕ) (bs : List ℕ) (n w : ℕ) → length bs ≡ n → Octets bs → w ≡ little bs → run32 c bs ≡ shifts (8 * n) (bit_xor c w)
run-spelled c bs n w e o spelled =
    run-word bs o c ∙ ap (λ (k : ℕ). shifts (8 * k) (bit_xor c (little bs))) e ∙ ap (λ (x : ℕ). shifts (8 * n) (bit_xor c x)) (sym spelled)

-- n bytes, and on from there
pub run-split : (n c : ℕ) (s : List ℕ) → run32 (run32 c (take n s)) (drop n s) ≡ run32 c s
run-split n c s = sym (run32-append c (take n s) (drop n s)) ∙ ap (run32 c) (take-append-drop n s)

-- q chunks of n bytes, and on from there
pub run-chunks : (n q c : ℕ) (s : List ℕ) → run32 (fold run32 c (first_chunks n q s)) (drop (q * n) s) ≡ run32 c s
run-chunks n zero c s = ap (λ (k : ℕ). run32 c (drop k s)) (zero-mul n)
run-chunks n (suc q) c s =
    let e : n + q * n ≡ suc q * n = add_comm n (q * n) ∙ sym (suc-mul q n) in
    ap (run32 (fold run32 c (first_chunks n (suc q) s))) (ap (λ (k : ℕ). drop k s) (sym e) ∙ sym (drop-drop (q * n) n s))
    ∙ run-chunks n q (run32 c (take n s)) (drop n s) ∙ run-split n c s

-- ---- a block of four words of eight bytes
-- a word
pub record Word (w : List ℕ) : Type 0 where
  pub size : length w ≡ 8
  pub bytes : Octets w

-- a word more
pub run-more : (c : ℕ) (w : List ℕ) → Word w → run32 c w ≡ shifts 64 (bit_xor c (little w))
run-more c w h = run-spelled c w 8 (little w) h.size h.bytes refl

-- ws are the words of the block s, and a run over them is one over it
pub record Block (s : List ℕ) (ws : List (List ℕ)) : Type 0 where
  pub word : (k : ℕ) → k < 4 → Word (get_or ws k [])
  pub run : (c : ℕ) → run32 (run32 (run32 (run32 c (get_or ws 0 [])) (get_or ws 1 [])) (get_or ws 2 [])) (get_or ws 3 []) ≡ run32 c s

-- word k of n
chunk-word : (n k : ℕ) (s : List ℕ) → n * 8 ≤ length s → Octets s → k < n → Word (get_or (first_chunks 8 n s) k [])
chunk-word zero k s h o l = absurd (omega arith)
chunk-word (suc n) zero s h o l = record { size = length-take-le 8 s (omega arith); bytes = octets-take 8 s o }
chunk-word (suc n) (suc k) s h o l = chunk-word n k (drop 8 s) (omega (arith, length-drop 8 s)) (octets-drop 8 s o) (omega arith)

pub block : (s : List ℕ) (ws : List (List ℕ)) → length s ≡ 32 → Octets s → ws ≡ first_chunks 8 (length s / 8) s → Block s ws
block s ws h o e =
    let p : ws ≡ first_chunks 8 4 s = e ∙ ap (λ (n : ℕ). first_chunks 8 (n / 8) s) h in
    rw p
    (record {
      word = λ k l. chunk-word 4 k s (omega arith) o l;
      run = λ c. ap (run32 (fold run32 c (first_chunks 8 4 s))) (sym (drop_all 32 s (le_of_eq h))) ∙ run-chunks 8 4 c s;
    })
