-- Bytes past the end, runs of bytes, and the bounds of the numbers they spell. Assumes nothing.
use Prim.Native.Nat.{ℕ, zero, suc, ◌+◌, ◌-◌, ◌*◌, ◌^◌, ◌≤◌, ◌<◌}
use Rattle.std.specs.Prelude.{List, [], ◌∷◌, ◌++◌, ◌≡◌, length, take, drop}
use Rattle.std.proofs.Common.{inl, inr, ap, ◌∙◌, pow-suc, mul_assoc, arith, length-append, length-take, length-drop, get_or-take, get_or-drop, ext_get_or}
use Rattle.std.proofs.Math.Path.{refl, sym}
use Rattle.std.proofs.Math.ListN.{get_or-eq_default}
use Rattle.std.proofs.Math.Seq.{take-length, take-append_seam, drop-append_seam}
use Rattle.chain.specs.All.{All}
use Rattle.chain.specs.Fill.{tab}
use Rattle.chain.proofs.laws.Below.{below}
use Rattle.chain.proofs.laws.Fill.{length-tab, get_or-tab, tab-agree, tab-append}
use Rattle.octets.specs.Bytes.{byte, Octets, run, little, le16, le32, le64}
use Rattle.octets.specs.Runs.{sixteen}

pub byte-past : (s : List ℕ) (p : ℕ) → length s ≤ p → byte s p ≡ 0
byte-past s p h = get_or-eq_default s 0 h

-- a byte that is not zero lies within
pub byte-within : (s : List ℕ) (p : ℕ) → 0 < byte s p → p < length s
byte-within s p h = elim (below p (length s)) [ inl k ↦ k | inr k ↦ absurd (omega (arith, byte-past s p k)) ]

-- a list of which each element is a byte
pub all-octets : (l : List ℕ) → All (λ b. b < 256) l → Octets l
all-octets [] a p = omega arith
all-octets (b ∷ bs) a zero = a.0
all-octets (b ∷ bs) a (suc p) = all-octets bs a.1 p

pub length-run : (s : List ℕ) (p n : ℕ) → length (run s p n) ≡ n
length-run s p n = length-tab (λ i. byte s (p + i)) n

pub byte-run : (s : List ℕ) (p n i : ℕ) → i < n → byte (run s p n) i ≡ byte s (p + i)
byte-run s p n i h = get_or-tab (λ j. byte s (p + j)) n i 0 h

pub run-octets : (s : List ℕ) (p n : ℕ) → Octets s → Octets (run s p n)
run-octets s p n h i =
    elim (below i n) [
      | inl k ↦ omega (arith, byte-run s p n i k, h (p + i))
      | inr k ↦ omega (arith, byte-past (run s p n) i (omega (arith, length-run s p n)))
    ]

-- a part of bytes is bytes, and a run within the image is a part of it
pub octets-take : (n : ℕ) (s : List ℕ) → Octets s → Octets (take n s)
octets-take n s h p =
    elim (below p n) [
      | inl k ↦ omega (arith, get_or-take n s p 0 k, h p)
      | inr k ↦ omega (arith, byte-past (take n s) p (simp length-take (omega arith)))
    ]

pub octets-drop : (n : ℕ) (s : List ℕ) → Octets s → Octets (drop n s)
octets-drop n s h p = rw get_or-drop (h (n + p))

pub run-part : (s : List ℕ) (p n : ℕ) → p + n ≤ length s → run s p n ≡ take n (drop p s)
run-part s p n h =
    let e : length (take n (drop p s)) ≡ n = simp (length-take, length-drop) (omega arith) in
    ext_get_or 0 (run s p n) (take n (drop p s)) (length-run s p n ∙ sym e)
    (λ i k.
    let l : i < n = omega (arith, length-run s p n) in
    byte-run s p n i l ∙ sym (get_or-take n (drop p s) i 0 l ∙ get_or-drop p s i 0))

-- a run of m + n bytes: m of them, and n from there on
pub run-append : (s : List ℕ) (p m n : ℕ) → run s p (m + n) ≡ run s p m ++ run s (p + m) n
run-append s p m n =
    tab-append (λ i. byte s (p + i)) m n
    ∙ ap (λ (l : List ℕ). run s p m ++ l) (tab-agree (λ i. byte s (p + (m + i))) (λ i. byte s (p + m + i)) n (λ i h. ap (byte s) (omega arith)))

-- the run of all the bytes
pub run-all : (s : List ℕ) → run s 0 (length s) ≡ s
run-all s = run-part s 0 (length s) (omega arith) ∙ take-length s

-- so a list of sixteen bytes has no others
pub sixteen-all : (l : List ℕ) → length l ≡ 16 → sixteen l ≡ l
sixteen-all l h = ap (run l 0) (sym h) ∙ run-all l

-- the run of the bytes x between others
pub run-between : (a x b : List ℕ) → run (a ++ (x ++ b)) (length a) (length x) ≡ x
run-between a x b =
    run-part (a ++ (x ++ b)) (length a) (length x) (simp length-append (omega arith))
    ∙ ap (take (length x)) (drop-append_seam a (x ++ b)) ∙ take-append_seam x b

-- a part from place p up to `end`
pub part-run : (s : List ℕ) (p n end : ℕ) → end ≡ p + n → end ≤ length s → take (end - p) (drop p s) ≡ run s p n
part-run s p n end e h =
    let d : end - p ≡ n = omega arith in
    rw d (sym (run-part s p n (omega arith)))

-- n bytes spell a number below 256 ^ n
pub little-below : (l : List ℕ) → Octets l → little l < 256 ^ length l
little-below [] h = omega arith
little-below (b ∷ bs) h =
    omega (arith, h zero, little-below bs (λ p. h (suc p)), pow-suc 256 (length bs))

-- bytes that spell 0 are zero
little-zero : (l : List ℕ) → little l ≡ 0 → (i : ℕ) → byte l i ≡ 0
little-zero [] e i = refl
little-zero (b ∷ bs) e zero = omega arith
little-zero (b ∷ bs) e (suc i) = little-zero bs (omega arith) i

-- the number of the bytes a and then b
little-append : (a b : List ℕ) → little (a ++ b) ≡ little a + 256 ^ length a * little b
little-append [] b = omega arith
little-append (x ∷ a) b =
    omega (arith, little-append a b, ap (λ (k : ℕ). k * little b) (pow-suc 256 (length a)), mul_assoc 256 (256 ^ length a) (little b))

module _ (s : List ℕ) (p : ℕ) where
  -- a number of twice n bytes, by its halves
  halves : (n : ℕ) → little (run s p (n + n)) ≡ little (run s p n) + 256 ^ n * little (run s (p + n) n)
  halves n = ap little (run-append s p n n) ∙ rw (length-run s p n) at (little-append (run s p n) (run s (p + n) n))

  pub le32-halves : le32 s p ≡ le16 s p + le16 s (p + 2) * 65536
  unfolding le16 le32
  le32-halves = omega (arith, halves 2)

  pub le64-halves : le64 s p ≡ le32 s p + le32 s (p + 4) * 4294967296
  unfolding le32 le64
  le64-halves = omega (arith, halves 4)

  -- past the end a number is 0
  run-past : length s ≤ p → (n : ℕ) → little (run s p n) ≡ 0
  unfolding tab
  run-past h zero = refl
  run-past h (suc n) =
      little-append (run s p n) (byte s (p + n) ∷ []) ∙ rw (run-past h n, byte-past s (p + n) (omega arith)) (omega arith)

  pub le32-past : length s ≤ p → le32 s p ≡ 0
  unfolding le32
  le32-past h = run-past h 4

  pub le64-past : length s ≤ p → le64 s p ≡ 0
  unfolding le64
  le64-past h = run-past h 8

  -- where a number is 0, so are its bytes
  pub le64-zero : le64 s p ≡ 0 → (i : ℕ) → i < 8 → byte s (p + i) ≡ 0
  unfolding le64
  le64-zero e i h = sym (byte-run s p 8 i h) ∙ little-zero (run s p 8) e i

module _ (s : List ℕ) (octets : Octets s) (p : ℕ) where
  run-below : (n : ℕ) → little (run s p n) < 256 ^ n
  run-below n = rw (length-run s p n) at (little-below (run s p n) (run-octets s p n octets))

  pub le16-below : le16 s p < 2 ^ 16
  unfolding le16
  le16-below = run-below 2

  pub le32-below : le32 s p < 2 ^ 32
  unfolding le32
  le32-below = run-below 4
