-- Laws of the parts of a line, a turn at a time: at place `at` the rest of the line is `drop at l`. Assumes nothing.
use Prim.Native.Nat.{ℕ, zero, suc, ◌+◌, ◌-◌, ◌*◌, ◌≤◌, ◌<◌}
use Rattle.std.specs.Prelude.{Bool, ◌&&◌, ◌≡◌, refl, eqb, leb, get_or, drop, take}
use Rattle.std.proofs.Math.Bool.{true, false, cond}
use mathlib.Core.List.{List, [], ◌∷◌}
use Rattle.std.proofs.Common.{sym, ◌∙◌, take_all}
use Rattle.std.proofs.Math.Path.{ap}
use native.Mathlib.Omega.{arith}
use Rattle.std.proofs.Math.ListN.{length, length-drop}
use borrow.Author.Tests.{lt-ltb, le-ltb, le-leb, lt-leb}
use Rattle.console.specs.Request.{before, semicolons_in, behind, first_of, part_of, within, value, two_digits}
use Rattle.console.proofs.laws.Request.{rest-more, rest-end}

-- ---- elements before the first that passes a test: `at + before test (drop at l) ≡ r`
module _ (test : ℕ → Bool) where
  -- never more than there are
  pub before-most : (l : List ℕ) → before test l ≤ length l
  unfolding before
  before-most [] = omega arith
  before-most (c ∷ cs) = go (test c) (before-most cs)
    where
      go : (b : Bool) → before test cs ≤ length cs → cond b 0 (suc (before test cs)) ≤ suc (length cs)
      go true h = omega arith
      go false h = omega arith

  -- the element does not pass: the next one
  pub before-turn : (l : List ℕ) (at r : ℕ) → at < length l → test (get_or l at 0) ≡ false → at + before test (drop at l) ≡ r → (at + 1) + before test (drop (at + 1) l) ≡ r
  unfolding before
  before-turn l at r h t i =
      let e : before test (drop at l) ≡ suc (before test (drop (at + 1) l)) = ap (before test) (rest-more l at h) ∙ ap (λ (b : Bool). cond b 0 (suc (before test (drop (at + 1) l)))) t in
      omega (arith, e, i)

  -- it does
  pub before-hit : (l : List ℕ) (at r : ℕ) → at < length l → test (get_or l at 0) ≡ true → at + before test (drop at l) ≡ r → at ≡ r
  unfolding before
  before-hit l at r h t i =
      let e : before test (drop at l) ≡ 0 = ap (before test) (rest-more l at h) ∙ ap (λ (b : Bool). cond b 0 (suc (before test (drop (at + 1) l)))) t in
      omega (arith, e, i)

  -- there is none
  pub before-done : (l : List ℕ) (at r : ℕ) → length l ≤ at → at + before test (drop at l) ≡ r → at ≡ r
  unfolding before
  before-done l at r h i =
      let e : before test (drop at l) ≡ 0 = ap (before test) (rest-end l at h) in
      omega (arith, e, i)

-- ---- semicolons, n of them before the place: `n + semicolons_in (drop at l) ≡ r`
pub semicolon-turn : (l : List ℕ) (at n m r : ℕ) → at < length l → eqb (get_or l at 0) 0x3B ≡ true → m ≡ n + 1 → n + semicolons_in (drop at l) ≡ r → m + semicolons_in (drop (at + 1) l) ≡ r
unfolding semicolons_in
semicolon-turn l at n m r h t q i =
    let s = semicolons_in (drop (at + 1) l) in
    let e : semicolons_in (drop at l) ≡ suc s = ap semicolons_in (rest-more l at h) ∙ ap (λ (b : Bool). cond b (suc s) s) t in
    omega (arith, e, i)

pub other-turn : (l : List ℕ) (at n m r : ℕ) → at < length l → eqb (get_or l at 0) 0x3B ≡ false → m ≡ n → n + semicolons_in (drop at l) ≡ r → m + semicolons_in (drop (at + 1) l) ≡ r
unfolding semicolons_in
other-turn l at n m r h t q i =
    let s = semicolons_in (drop (at + 1) l) in
    let e : semicolons_in (drop at l) ≡ s = ap semicolons_in (rest-more l at h) ∙ ap (λ (b : Bool). cond b (suc s) s) t in
    omega (arith, e, i)

pub semicolons-done : (l : List ℕ) (at n r : ℕ) → length l ≤ at → n + semicolons_in (drop at l) ≡ r → n ≡ r
unfolding semicolons_in
semicolons-done l at n r h i =
    let e : semicolons_in (drop at l) ≡ 0 = ap semicolons_in (rest-end l at h) in
    omega (arith, e, i)

-- ---- what is behind `left` more semicolons: `behind left (drop at l) ≡ r`
pub behind-semicolon : (l : List ℕ) (at left k : ℕ) (r : List ℕ) → at < length l → 0 < left → eqb (get_or l at 0) 0x3B ≡ true → k ≡ left - 1 → behind left (drop at l) ≡ r → behind k (drop (at + 1) l) ≡ r
unfolding behind
behind-semicolon l at zero k r h p t q i = absurd (omega arith)
behind-semicolon l at (suc n) k r h p t q i =
    let m = drop (at + 1) l in
    let e : behind (suc n) (drop at l) ≡ behind n m = ap (behind (suc n)) (rest-more l at h) ∙ ap (λ (b : Bool). cond b (behind n m) (behind (suc n) m)) t in
    let z : k ≡ n = omega arith in
    ap (λ (j : ℕ). behind j m) z ∙ sym e ∙ i

pub behind-other : (l : List ℕ) (at left k : ℕ) (r : List ℕ) → at < length l → 0 < left → eqb (get_or l at 0) 0x3B ≡ false → k ≡ left → behind left (drop at l) ≡ r → behind k (drop (at + 1) l) ≡ r
unfolding behind
behind-other l at zero k r h p t q i = absurd (omega arith)
behind-other l at (suc n) k r h p t q i =
    let m = drop (at + 1) l in
    let e : behind (suc n) (drop at l) ≡ behind (suc n) m = ap (behind (suc n)) (rest-more l at h) ∙ ap (λ (b : Bool). cond b (behind n m) (behind (suc n) m)) t in
    ap (λ (j : ℕ). behind j m) q ∙ sym e ∙ i

pub behind-here : (l : List ℕ) (left : ℕ) (r : List ℕ) → left ≡ 0 → behind left l ≡ r → l ≡ r
unfolding behind
behind-here l left r z i = sym (ap (λ (k : ℕ). behind k l) z) ∙ i

behind-nil : (n : ℕ) → behind n [] ≡ []
unfolding behind
behind-nil zero = refl
behind-nil (suc n) = refl

pub behind-done : (l : List ℕ) (at left : ℕ) (r : List ℕ) → length l ≤ at → behind left (drop at l) ≡ r → drop (length l) l ≡ r
behind-done l at left r h i = rest-end l (length l) (omega arith) ∙ sym (behind-nil left) ∙ sym (ap (behind left) (rest-end l at h)) ∙ i

-- ---- what a digit stands for
pub in-within : (a b c : ℕ) → a ≤ c → leb c b ≡ true → within a b c ≡ true
in-within a b c h k = rw (le-leb a c h, k)

pub under-within : (a b c : ℕ) → c < a → within a b c ≡ false
under-within a b c h = rw (lt-leb a c h)

pub past-within : (a b c : ℕ) → leb c b ≡ false → within a b c ≡ false
past-within a b c h = ap (λ (x : Bool). leb a c && x) h ∙ none (leb a c)
  where
    none : (x : Bool) → (x && false) ≡ false
    none true = refl
    none false = refl

module _ (c : ℕ) where
  pub value-decimal : within 0x30 0x39 c ≡ true → value c ≡ c - 0x30
  unfolding value
  value-decimal h = rw h

  module _ (d : within 0x30 0x39 c ≡ false) where
    pub value-upper : within 0x41 0x46 c ≡ true → value c ≡ c - 0x41 + 10
    unfolding value
    value-upper h = rw (d, h)

    module _ (u : within 0x41 0x46 c ≡ false) where
      pub value-lower : within 0x61 0x66 c ≡ true → value c ≡ c - 0x61 + 10
      unfolding value
      value-lower h = rw (d, u, h)

      pub value-other : within 0x61 0x66 c ≡ false → value c ≡ 16
      unfolding value
      value-other h = rw (d, u, h)

-- ---- the byte of two digits
module _ (c d : ℕ) where
  pub two-high : 15 < value c → two_digits c d ≡ 256
  unfolding two_digits
  two-high h = rw (lt-ltb 15 (value c) h)

  pub two-low : value c ≤ 15 → 15 < value d → two_digits c d ≡ 256
  unfolding two_digits
  two-low h k = rw (le-ltb 15 (value c) h, lt-ltb 15 (value d) k)

  pub two-both : value c ≤ 15 → value d ≤ 15 → two_digits c d ≡ value c * 16 + value d
  unfolding two_digits
  two-both h k = rw (le-ltb 15 (value c) h, le-ltb 15 (value d) k)

-- ---- a part as a slice of the line: `&l[a..b]` is `take (b - a) (drop a l)`
-- a list from place n on
rest-all : (l : List ℕ) (n : ℕ) → take (length l - n) (drop n l) ≡ drop n l
rest-all l n = take_all (length l - n) (drop n l) (omega (arith, length-drop n l))

-- part n: from where it begins, up to the next semicolon
pub part-slice : (l : List ℕ) (n start k : ℕ) → drop start l ≡ behind n l → k ≡ first_of 0x3B (take (length l - start) (drop start l)) → take (start + k - start) (drop start l) ≡ part_of n l
unfolding part_of
part-slice l n start k e f =
    let z : start + k - start ≡ k = omega arith in
    let g : k ≡ first_of 0x3B (behind n l) = f ∙ ap (first_of 0x3B) (rest-all l start ∙ e) in
    ap (λ (j : ℕ). take j (drop start l)) z ∙ ap (take k) e ∙ ap (λ (j : ℕ). take j (behind n l)) g
