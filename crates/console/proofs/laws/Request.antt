-- Laws of the parts of a line: what std's iterators find of it, and for the loop over digits what is left at place `at`, `drop at l`. Assumes nothing.
use Prim.Native.Nat.{ℕ, zero, suc, ◌+◌, ◌*◌, ◌≤◌, ◌<◌}
use Rattle.std.specs.Prelude.{Bool, not, ◌≡◌, refl, eqb, leb, ltb, get_or, drop, take, Option, Some, None}
use Rattle.std.proofs.Math.Bool.{true, false, cond}
use mathlib.Core.List.{List, [], ◌∷◌}
use Rattle.std.proofs.Common.{sym, ◌∙◌, add-one, drop_of_length-le, drop-cons, eq-or-lt_of_le, inl, inr}
use Rattle.std.proofs.lemmas.Grind.{common_steps}
use Rattle.std.proofs.lemmas.Bool.{ltb-true, ltb-false}
use Rattle.std.specs.Char.{is_ascii_digit}
use Rattle.std.proofs.Math.Path.{ap}
use native.Mathlib.Omega.{arith}
use Rattle.std.proofs.Math.ListN.{length}
use Rattle.std.specs.List.{count_by, position, position_or_len, slice_get, slice_split, onto_first}
use Rattle.std.specs.Option.{unwrap_or, option_map}
use Rattle.std.proofs.lemmas.List.Recursion.{is_count_by, is_position_or_len}
use Rattle.std.proofs.lemmas.List.Sums.{prefix_len-le-length}
use borrow.Author.Tests.{lt-ltb, le-ltb, le-leb, lt-leb}
use Rattle.console.specs.Request.{before, first_of, semicolons_in, behind, part_of, value, given, digit_value, no_digit, decimal_from, decimal_in, two_digits, pair_value}

-- the rest of a list at a place within it, and at its end
pub rest-more : (l : List ℕ) (at : ℕ) → at < length l → drop at l ≡ get_or l at 0 ∷ drop (at + 1) l
rest-more l at h = drop-cons l at 0 h ∙ ap (λ (k : ℕ). get_or l at 0 ∷ drop k l) (sym (add-one at))

pub rest-end : (l : List ℕ) (at : ℕ) → length l ≤ at → drop at l ≡ []
rest-end l at h = drop_of_length-le l h

-- ---- elements before the first that passes a test
module _ (test : ℕ → Bool) where
  before-position : (l : List ℕ) → before test l ≡ position_or_len test l
  unfolding before
  before-position = is_position_or_len (before test) test refl (λ c cs. let e : suc (before test cs) ≡ 1 + before test cs = omega arith in ap (λ (n : ℕ). cond (test c) 0 n) e)

  -- what `position` finds, and the length where it finds none
  pub before-found : (l : List ℕ) (o : Option ℕ) (r : ℕ) → o ≡ position test l → r ≡ unwrap_or o (length l) → r ≡ before test l
  before-found l o r f e =
      let p = before-position l in
      e ∙ ap (λ (q : Option ℕ). unwrap_or q (length l)) f ∙ found (position_or_len test l) (length l) (prefix_len-le-length (λ c. not (test c)) l) ∙ sym p
    where
      found : (k n : ℕ) → k ≤ n → unwrap_or (cond (ltb k n) (Some k) None) n ≡ k
      found k n h =
          elim (eq-or-lt_of_le h) [
            | inl z ↦ omega (arith, same (ltb k n) k n z)
            | inr z ↦ rw (lt-ltb k n z)
          ]
        where
          same : (b : Bool) (k n : ℕ) → k ≡ n → unwrap_or (cond b (Some k) None) n ≡ k
          same true k n z = refl
          same false k n z = sym z

-- ---- semicolons
pub semicolons_count : (l : List ℕ) → semicolons_in l ≡ count_by (λ c. eqb c 0x3B) l
unfolding semicolons_in
semicolons_count = is_count_by semicolons_in (λ c. eqb c 0x3B) refl (λ c cs. let e : suc (semicolons_in cs) ≡ 1 + semicolons_in cs = omega arith in ap (λ (n : ℕ). cond (eqb c 0x3B) n (semicolons_in cs)) e)

-- ---- part n of a line, among the parts that `split` gives
abbrev pub look : List (List ℕ) → ℕ → List ℕ
look parts n = unwrap_or (slice_get parts n) []

look-first : (c : ℕ) (parts : List (List ℕ)) → look (onto_first c parts) 0 ≡ c ∷ look parts 0
look-first c [] = refl
look-first c (part ∷ parts) = refl

look-later : (c : ℕ) (parts : List (List ℕ)) (n : ℕ) → look (onto_first c parts) (suc n) ≡ look parts (suc n)
look-later c [] n = refl
look-later c (part ∷ parts) n = refl

-- what `unwrap_or` answers where it shows a list, and nothing where none is given
pub shown-or : {A : Type 0} (shows : A → List ℕ) (r : Option A) (x d : A) → x ≡ unwrap_or r d → shows d ≡ [] → shows x ≡ unwrap_or (option_map shows r) []
shown-or shows (Some y) x d e n = ap shows e
shown-or shows None x d e n = ap shows e ∙ n

pub part-split : (l : List ℕ) (n : ℕ) → look (slice_split (λ c. eqb c 0x3B) l) n ≡ part_of n l
unfolding part_of behind before
part-split [] zero = refl
part-split [] (suc n) = refl
part-split (c ∷ cs) zero = go (eqb c 0x3B) (part-split cs 0)
  where
    parts : List (List ℕ)
    parts = slice_split (λ c. eqb c 0x3B) cs

    go : (b : Bool) → look parts 0 ≡ part_of 0 cs → look (cond b ([] ∷ parts) (onto_first c parts)) 0 ≡ take (cond b 0 (suc (first_of 0x3B cs))) (c ∷ cs)
    go true h = refl
    go false h = look-first c parts ∙ ap (λ (m : List ℕ). c ∷ m) h
part-split (c ∷ cs) (suc n) = go (eqb c 0x3B) (part-split cs n) (part-split cs (suc n))
  where
    parts : List (List ℕ)
    parts = slice_split (λ c. eqb c 0x3B) cs

    go : (b : Bool) → look parts n ≡ part_of n cs → look parts (suc n) ≡ part_of (suc n) cs → look (cond b ([] ∷ parts) (onto_first c parts)) (suc n) ≡ take (first_of 0x3B (cond b (behind n cs) (behind (suc n) cs))) (cond b (behind n cs) (behind (suc n) cs))
    go true h k = h
    go false h k = look-later c parts n ∙ k

-- ---- a decimal number, of which the digits before the place spell n: `decimal_from n (drop at l) ≡ r`
pub decimal_turn : (l : List ℕ) (at n d r : ℕ) → at < length l → d ≡ value (get_or l at 0) → decimal_from n (drop at l) ≡ r → decimal_from (n * 10 + d) (drop (at + 1) l) ≡ r
unfolding decimal_from
decimal_turn l at n d r h e i = ap (λ (k : ℕ). decimal_from (n * 10 + k) (drop (at + 1) l)) e ∙ sym (ap (decimal_from n) (rest-more l at h)) ∙ i

-- a further digit makes no number smaller
decimal-least : (l : List ℕ) (n : ℕ) → n ≤ decimal_from n l
unfolding decimal_from
decimal-least [] n = omega arith
decimal-least (c ∷ cs) n = omega (arith, decimal-least cs (n * 10 + value c))

-- with this digit the number is over the most
pub decimal_over : (l : List ℕ) (at n d : ℕ) {most : ℕ} → at < length l → d ≡ value (get_or l at 0) → most < n * 10 + d → decimal_from n (drop at l) ≡ decimal_from 0 l → None ≡ decimal_in most l
decimal_over l at n d {most} h e k i =
    let t = decimal_turn l at n d (decimal_from 0 l) h e i in
    let f : leb (decimal_from 0 l) most ≡ false = lt-leb (decimal_from 0 l) most (omega (arith, t, decimal-least (drop (at + 1) l) (n * 10 + d))) in
    rw f

-- there is no further one
pub decimal_good : (l : List ℕ) (at n : ℕ) {most : ℕ} → length l ≤ at → n ≤ most → decimal_from n (drop at l) ≡ decimal_from 0 l → Some n ≡ decimal_in most l
unfolding decimal_from
decimal_good l at n {most} h k i =
    let e : n ≡ decimal_from 0 l = sym (ap (decimal_from n) (rest-end l at h)) ∙ i in
    let f : leb (decimal_from 0 l) most ≡ true = le-leb (decimal_from 0 l) most (omega arith) in
    ap (given true) e ∙ sym (ap (λ (b : Bool). given b (decimal_from 0 l)) f)

-- ---- what a digit stands for
pub value-most : (c : ℕ) → value c ≤ 16
unfolding value
value-most c = grind (arith, common_steps)

-- what is given for a digit, and 16 for any other character
pub digit_or : (c : ℕ) → unwrap_or (digit_value c) 16 ≡ value c
digit_or c =
    elim (eq-or-lt_of_le (value-most c)) [
      | inl z ↦ go (ltb (value c) 16) z
      | inr z ↦ rw (lt-ltb (value c) 16 z)
    ]
  where
    go : (b : Bool) → value c ≡ 16 → unwrap_or (given b (value c)) 16 ≡ value c
    go true z = refl
    go false z = sym z

-- std's test of a decimal digit
pub digit_test : (c : ℕ) → not (is_ascii_digit c) ≡ no_digit c
unfolding value
digit_test c = grind (arith, common_steps)

-- ---- the byte of two digits: none without the first, none without the second
given-none : (b : Bool) (n : ℕ) → None ≡ given b n → b ≡ false
given-none true n h = absurd (grind (arith, h))
given-none false n h = refl

given-some : (b : Bool) (n v : ℕ) → Some v ≡ given b n → (b ≡ true) × (v ≡ n)
given-some true n v h = (refl, grind (arith, h))
given-some false n v h = absurd (grind (arith, h))

module _ (c d : ℕ) where
  pub two_high : None ≡ digit_value c → None ≡ pair_value c d
  unfolding two_digits
  two_high h = rw (lt-ltb 15 (value c) (ltb-false _ 16 (given-none _ _ h)))

  pub two_low : None ≡ digit_value d → None ≡ pair_value c d
  unfolding two_digits
  two_low h = let k = lt-ltb 15 (value d) (ltb-false _ 16 (given-none _ _ h)) in go (ltb 15 (value c)) (ltb 15 (value d)) k
    where
      go : (a b : Bool) → b ≡ true → (let n = cond a 256 (cond b 256 (value c * 16 + value d)) in None ≡ given (ltb n 256) n)
      go true b k = refl
      go false b k = rw k

  pub two_both : (v w : ℕ) → Some v ≡ digit_value c → Some w ≡ digit_value d → Some (v * 16 + w) ≡ pair_value c d
  unfolding two_digits
  two_both v w h k =
      let e = given-some _ _ v h in
      let f = given-some _ _ w k in
      let a = ltb-true _ 16 e.0 in
      let b = ltb-true _ 16 f.0 in
      rw (le-ltb 15 (value c) (omega (arith, a)), le-ltb 15 (value d) (omega (arith, b)), lt-ltb (value c * 16 + value d) 256 (omega (arith, a, b)), e.1, f.1)

  -- what is given, in the words of `two_digits`
  pub pair_some : (b : ℕ) → Some b ≡ pair_value c d → (b ≡ two_digits c d) × (b < 256)
  pair_some b h = let e = given-some _ _ b h in (e.1, omega (arith, e.1, ltb-true _ 256 e.0))

  pub pair_none : None ≡ pair_value c d → 256 ≤ two_digits c d
  pair_none h = ltb-false _ 256 (given-none _ _ h)
