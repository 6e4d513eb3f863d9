-- The tables that stand in the source, computed. A proof that cites one of these lists compares it with the source's by computation.
-- CRC-8's table is computed entry by entry (`values`). A table of CRC-32 is computed bit by bit, the highest bit of its numbers first (`span`): one bit more at
-- the end of a number and one shift more take each entry over if the bit is 0, and add what the shifts make of 1 if it is 1 (`weave`). The tables are computed
-- from the last to the first, each with w shifts more than the one behind it (`tables`).
-- Assumes nothing.
use Prim.Native.Nat.{ℕ, zero, suc, ◌+◌, ◌-◌, ◌*◌, ◌/◌, ◌%◌, ◌^◌, ◌<◌}
use mathlib.Core.List.{List, [], ◌∷◌, ◌++◌}
use mathlib.Core.Path.{◌≡◌, refl, sym, ap, ap₂, ◌∙◌}
use native.Mathlib.Nat.{one-mul, zero-mul, zero-add, add-zero, mul-suc, div-add-mod', two-pow-succ, mul-add, lt_of_mul-lt-mul_left}
use native.Mathlib.Omega.{arith}
use lib.Bits.{bit_xor, xor_zero_r}
use lib.ListN.{length, get_or, get_or-append}
use lib.Seq.{get_or-append-add}
use Rattle.crc.specs.Crc8.{eight_zeros}
use Rattle.crc.specs.Crc32.{shift, shifts}
use Rattle.crc.specs.Tables.{Table, Remainders}
use Rattle.crc.proofs.laws.Crc32.{shifts-add}
use Rattle.crc.proofs.laws.Xor.{bit-ind, odd-lt}
use Rattle.crc.proofs.Braid.{shifts-zero}
use Rattle.crc.proofs.Lookup.{by-parts}

-- what f makes of n numbers, from k on
abbrev values : (ℕ → ℕ) → ℕ → ℕ → List ℕ
values f k zero = []
values f k (suc n) = f k ∷ values f (suc k) n

value-at : (f : ℕ → ℕ) (k n v : ℕ) → v < n → get_or (values f k n) v 0 ≡ f (k + v)
value-at f k zero v h = absurd (omega arith)
value-at f k (suc n) zero h = ap f (sym (add-zero k))
value-at f k (suc n) (suc v) h =
    let e : suc k + v ≡ k + suc v = omega arith in
    value-at f (suc k) n v (omega arith) ∙ ap f e

-- CRC-8's table
pub remainders-right : Remainders (values eight_zeros 0 256)
remainders-right = record { entry = λ v h. value-at eight_zeros 0 256 v h ∙ ap eight_zeros (zero-add v) }

-- each element of l, and then that with x added
abbrev weave : ℕ → List ℕ → List ℕ
weave x [] = []
weave x (e ∷ l) = e ∷ bit_xor e x ∷ weave x l

length-weave : (x : ℕ) (l : List ℕ) → length (weave x l) ≡ 2 * length l
length-weave x [] = refl
length-weave x (e ∷ l) =
    let h = length-weave x l in
    omega arith

weave-at : (x b : ℕ) → b < 2 → (l : List ℕ) (r : ℕ) → r < length l → get_or (weave x l) (r * 2 + b) 0 ≡ bit_xor (get_or l r 0) (b * x)
weave-at x b hb [] r h = absurd (omega arith)
weave-at x b hb (e ∷ l) zero h =
    bit-ind (λ (b : ℕ). get_or (weave x (e ∷ l)) (0 * 2 + b) 0 ≡ bit_xor e (b * x)) (sym (ap (bit_xor e) (zero-mul x) ∙ xor_zero_r e)) (ap (bit_xor e) (sym (one-mul x))) b hb
weave-at x b hb (e ∷ l) (suc r) h =
    let d : suc r * 2 + b ≡ suc (suc (r * 2 + b)) = omega arith in
    ap (λ (p : ℕ). get_or (weave x (e ∷ l)) p 0) d ∙ weave-at x b hb l r (omega arith)

-- l has what m shifts make of each number of k bits
record Row (k m : ℕ) (l : List ℕ) : Type 0 where
  size : length l ≡ 2 ^ k
  at : (v : ℕ) → v < 2 ^ k → get_or l v 0 ≡ shifts m v

-- what n shifts make of a bit
of-bit : (n b : ℕ) → b < 2 → b * shifts n 1 ≡ shifts n b
of-bit n = bit-ind (λ (b : ℕ). b * shifts n 1 ≡ shifts n b) (zero-mul (shifts n 1) ∙ sym (shifts-zero n)) (one-mul (shifts n 1))

-- one bit more, and one shift
row-weave : {k m : ℕ} {l : List ℕ} (x : ℕ) → x ≡ shifts (1 + m) 1 → Row k m l → Row (suc k) (1 + m) (weave x l)
row-weave {k} {m} {l} x e R =
    let twice : 2 ^ suc k ≡ 2 ^ k + 2 ^ k = two-pow-succ k in
    record {
      size = length-weave x l ∙ omega (arith, R.size);
      at =
          λ v h.
          ap (λ (p : ℕ). get_or (weave x l) p 0) (sym (div-add-mod' v 2))
          ∙ weave-at x (v % 2) (odd-lt v) l (v / 2) (omega (arith, R.size))
          ∙ ap₂ bit_xor (R.at (v / 2) (omega arith)) (ap (λ (y : ℕ). v % 2 * y) e ∙ of-bit (1 + m) (v % 2) (odd-lt v))
          ∙ by-parts 1 m v;
    }

-- d shifts more of 1
more-shifts : (d m n x : ℕ) → d + m ≡ n → x ≡ shifts m 1 → shifts d x ≡ shifts n 1
more-shifts d m n x e h =
    let c : m + d ≡ n = omega arith in
    ap (shifts d) h ∙ sym (shifts-add m d 1) ∙ ap (λ (k : ℕ). shifts k 1) c

-- k bits and k shifts more; x is what one shift more makes of 1
abbrev span : ℕ → ℕ → List ℕ → List ℕ
span zero x l = l
span (suc k) x l = span k (shift x) (weave x l)

row-span : (k j m x : ℕ) {l : List ℕ} → x ≡ shifts (1 + m) 1 → Row j m l → Row (k + j) (k + m) (span k x l)
unfolding shifts
row-span zero j m x e R = rw (zero-add j, zero-add m) R
row-span (suc k) j m x e R =
    let ej : k + suc j ≡ suc k + j = omega arith in
    let em : k + (1 + m) ≡ suc k + m = omega arith in
    rw (ej, em) at (row-span k (suc j) (1 + m) (shift x) (more-shifts 1 (1 + m) (1 + (1 + m)) x refl e) (row-weave x e R))

-- a table of w bits, from that of no bits
abbrev table : ℕ → ℕ → List ℕ
table w x = span w x (0 ∷ [])

row-table : (w m x : ℕ) → x ≡ shifts (1 + m) 1 → Row w (w + m) (table w x)
row-table w m x e = rw add-zero at (row-span w 0 m x {l = 0 ∷ []} e (record { size = refl; at = first }))
  where
    first : (v : ℕ) → v < 1 → get_or (0 ∷ []) v 0 ≡ shifts m v
    first zero h = sym (shifts-zero m)
    first (suc v) h = absurd (omega arith)

-- k tables of w bits before l, the last of them from x
abbrev tables : ℕ → ℕ → ℕ → List ℕ → List ℕ
tables w zero x l = l
tables w (suc k) x l = tables w k (shifts w x) (table w x ++ l)

module _ (w : ℕ) where
  -- the next table has w shifts more
  up : (m x : ℕ) → x ≡ shifts (1 + m) 1 → shifts w x ≡ shifts (1 + (w + m)) 1
  up m x = more-shifts w (1 + m) (1 + (w + m)) x (omega arith)

  behind : (k m x : ℕ) (l : List ℕ) (p : ℕ) → x ≡ shifts (1 + m) 1 → get_or (tables w k x l) (2 ^ w * k + p) 0 ≡ get_or l p 0
  behind zero m x l p e =
      let d : 2 ^ w * 0 + p ≡ p = omega arith in
      ap (λ (q : ℕ). get_or l q 0) d
  behind (suc k) m x l p e =
      let n = length (table w x) in
      let d : 2 ^ w * suc k + p ≡ 2 ^ w * k + (n + p) = omega (arith, mul-suc (2 ^ w) k, (row-table w m x e).size) in
      ap (λ (q : ℕ). get_or (tables w (suc k) x l) q 0) d
      ∙ behind k (w + m) (shifts w x) (table w x ++ l) (n + p) (up m x e) ∙ get_or-append-add (table w x) l p 0

  -- table j, with d tables behind it
  table-at : (k m d j v x : ℕ) (l : List ℕ) → x ≡ shifts (1 + m) 1 → j + suc d ≡ k → v < 2 ^ w
      → get_or (tables w k x l) (2 ^ w * j + v) 0 ≡ shifts (m + w * suc d) v
  table-at zero m d j v x l e c h = absurd (omega arith)
  table-at (suc k) m zero j v x l e c h =
      let R = row-table w m x e in
      let last : j ≡ k = omega arith in
      let s : w + m ≡ m + w * 1 = omega arith in
      ap (λ (i : ℕ). get_or (tables w (suc k) x l) (2 ^ w * i + v) 0) last ∙ behind k (w + m) (shifts w x) (table w x ++ l) v (up m x e)
      ∙ get_or-append (table w x) l 0 v (omega (arith, R.size)) ∙ R.at v h ∙ ap (λ (n : ℕ). shifts n v) s
  table-at (suc k) m (suc d) j v x l e c h =
      let s : w + m + w * suc d ≡ m + w * suc (suc d) = omega (arith, mul-suc w (suc d)) in
      table-at k (w + m) d j v (shifts w x) (table w x ++ l) (up m x e) (omega arith) h ∙ ap (λ (n : ℕ). shifts n v) s

-- the k tables of a word's parts of w bits
pub tables-right : (w k m n : ℕ) → w * k ≡ 64 → m + 64 ≡ n → Table w n (tables w k (shifts (1 + m) 1) [])
tables-right w k m n whole e =
    record {
      entry =
          λ j v place h.
          let inside : w * j < w * k = omega arith in
          let less : j < k = lt_of_mul-lt-mul_left w inside in
          let d : ℕ = k - suc j in
          let c : j + suc d ≡ k = omega arith in
          let s : m + w * suc d ≡ n - w * j = omega (arith, mul-add w j (suc d), ap (λ (i : ℕ). w * i) c) in
          table-at w k m d j v (shifts (1 + m) 1) [] refl c h ∙ ap (λ (i : ℕ). shifts i v) s;
    }
