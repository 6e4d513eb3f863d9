-- What shifts make of a number, part by part: its low w bits take all of the shifts, and the rest comes down by w of them and takes the others (`by-parts`).
-- So a number goes by tables, from its highest part down (`lookup-turn`).
-- Assumes nothing.
use Prim.Native.Nat.{ℕ, suc, ◌+◌, ◌-◌, ◌*◌, ◌/◌, ◌%◌, ◌^◌, ◌<◌, ◌≤◌}
use mathlib.Core.List.{List}
use mathlib.Core.Path.{◌≡◌, sym, ap, ap₂, ◌∙◌}
use native.Mathlib.Nat.{mod-lt, mod-eq_of_lt, mul-suc, mul-add, mul_comm, one-mul, div-eq_of_lt}
use native.Mathlib.Omega.{arith}
use lib.Bits.{bit_xor, xor_lt, xor_shifted}
use lib.ListN.{get_or}
use lib.Pow.{pow_pos, pow-lt, shr-shr, split}
use Rattle.std.proofs.lemmas.Grind.{rows}
use Rattle.crc.proofs.Braid.{shifts-zero}
use Rattle.crc.specs.Crc32.{shifts}
use Rattle.crc.specs.Tables.{Table}
use Rattle.crc.proofs.laws.Crc32.{shifts-xor, shifts-add, shifts-up}

-- the rest, and the low w bits
pub by-parts : (w m x : ℕ) → bit_xor (shifts m (x / 2 ^ w)) (shifts (w + m) (x % 2 ^ w)) ≡ shifts (w + m) x
by-parts w m x =
    let rest : ℕ = x / 2 ^ w * 2 ^ w in
    let part : ℕ = x % 2 ^ w in
    ap (λ (y : ℕ). bit_xor y (shifts (w + m) part)) (sym (shifts-add w m rest ∙ ap (shifts m) (shifts-up w (x / 2 ^ w))))
    ∙ sym (shifts-xor (w + m) rest part) ∙ ap (shifts (w + m)) (xor_shifted (x / 2 ^ w) w part (mod-lt x (pow_pos w)) ∙ split x w)

-- r is what the parts of x from q on come to; the part j below them goes by table i
pub lookup-turn : {w n : ℕ} {t : List ℕ} → Table w n t → (x i j q m r : ℕ) → q ≡ suc j → w + m ≡ n - w * i → w * i < 64 → r ≡ shifts m (x / 2 ^ (w * q))
    → bit_xor r (get_or t (2 ^ w * i + x / 2 ^ (w * j) % 2 ^ w) 0) ≡ shifts (n - w * i) (x / 2 ^ (w * j))
lookup-turn {w} {n} T x i j q m r next more place told =
    let y : ℕ = x / 2 ^ (w * j) in
    let rest : x / 2 ^ (w * q) ≡ y / 2 ^ w = ap (λ (k : ℕ). x / 2 ^ k) (ap (λ (k : ℕ). w * k) next ∙ mul-suc w j) ∙ sym (shr-shr x (w * j) w) in
    ap₂ bit_xor (told ∙ ap (shifts m) rest) (T.entry i (y % 2 ^ w) place (mod-lt y (pow_pos w)) ∙ ap (λ (k : ℕ). shifts k (y % 2 ^ w)) (sym more))
    ∙ by-parts w m y ∙ ap (λ (k : ℕ). shifts k y) more

-- how many entries a part has, as the code has it
pub part-size : (w : ℕ) → w ≤ 8 → 1 * 2 ^ w % 2 ^ 64 ≡ 2 ^ w
part-size w h = ap (λ (n : ℕ). n % 2 ^ 64) (one-mul (2 ^ w)) ∙ mod-eq_of_lt (pow-lt {j = 64} (omega arith))

-- the place of a part's entry
pub entry-place : (w i v count size : ℕ) → size ≡ 2 ^ w * count → i < count → i * 2 ^ w + v % 2 ^ w < size
entry-place w i v count size e h = placed size (2 ^ w) count (v % 2 ^ w) i e (mod-lt v (pow_pos w)) h
  where
    placed : (n w h x y : ℕ) → n ≡ w * h → x < w → y < h → y * w + x < n
    placed n w h x y e p q = grind (arith, rows)

-- the turn of `lookup`, which takes the last k of all the tables
module _ {w n : ℕ} {t : List ℕ} (T : Table w n t) (some : 0 < w) (all : w * (64 / w) ≡ 64) (word : 64 ≤ n) where
  pub lookup-next : (x k q r : ℕ) → 0 < q → q ≤ k → k ≤ 64 / w → r ≡ shifts (n - 64 + w * (k - q)) (x / 2 ^ (w * q))
      → bit_xor r (get_or t ((64 / w - k + (q - 1)) * 2 ^ w + x / 2 ^ (w * (q - 1)) % 2 ^ w) 0) ≡ shifts (n - 64 + w * (k - (q - 1))) (x / 2 ^ (w * (q - 1)))
  lookup-next x k q r hq hk h told =
      let j : ℕ = q - 1 in
      let i : ℕ = 64 / w - k + j in
      let part : ℕ = x / 2 ^ (w * j) % 2 ^ w in
      let d : ℕ = w * (k - q) in
      let next : q ≡ suc j = omega arith in
      let one : k - j ≡ suc (k - q) = omega arith in
      let more : w * (k - j) ≡ d + w = ap (λ (m : ℕ). w * m) one ∙ mul-suc w (k - q) in
      let count : i + (k - j) ≡ 64 / w = omega arith in
      let sum : w * i + w * (k - j) ≡ 64 = sym (mul-add w i (k - j)) ∙ ap (λ (m : ℕ). w * m) count ∙ all in
      ap (λ (p : ℕ). bit_xor r (get_or t (p + part) 0)) (mul_comm i (2 ^ w))
      ∙ lookup-turn T x i j q (n - 64 + d) r next (omega arith) (omega arith) told
      ∙ ap (λ (m : ℕ). shifts m (x / 2 ^ (w * j))) (omega arith)

-- nothing stands above two numbers of n bits
pub none-above : (n a b : ℕ) → a < 2 ^ n → b < 2 ^ n → 0 ≡ shifts 0 (bit_xor a b / 2 ^ n)
unfolding shifts
none-above n a b ha hb = sym (div-eq_of_lt (xor_lt n a b ha hb))

-- nor above a word
pub word-above : (m n x : ℕ) → n ≡ 64 → x < 2 ^ 64 → 0 ≡ shifts m (x / 2 ^ n)
word-above m n x e h = sym (ap (λ (k : ℕ). shifts m (x / 2 ^ k)) e ∙ ap (shifts m) (div-eq_of_lt h) ∙ shifts-zero m)
