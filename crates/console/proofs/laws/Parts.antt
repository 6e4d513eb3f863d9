-- A number in a text: what the functions find, put together. `&l[a..b]` is `take (b - a) (drop a l)`. Assumes nothing.
use Rattle.std.specs.Prelude.{ℕ, ◌-◌, Bool, ◌&&◌, List, ◌≡◌, take, None}
use Rattle.std.proofs.Math.Bool.{true, false, cond}
use Rattle.std.proofs.Math.Path.{refl, sym, ap}
use Rattle.std.proofs.Common.{◌∙◌, arith, take_all}
use Rattle.std.proofs.Math.Dec.{eqb, ltb}
use Rattle.std.proofs.Math.ListN.{length, drop, length-drop}
use borrow.Author.Tests.{lt-ltb, le-ltb, eq-eqb, ne_eqb}
use Rattle.console.specs.Request.{blanks, digits, decimal_in, number_at, number_in}

-- a list from place n on
rest-all : (l : List ℕ) (n : ℕ) → take (length l - n) (drop n l) ≡ drop n l
rest-all l n = take_all (length l - n) (drop n l) (omega (arith, length-drop n l))

-- a number with blanks before it
pub number_slice : (most : ℕ) (l : List ℕ) (n : ℕ) → n ≡ blanks l → number_at most (take (length l - n) (drop n l)) ≡ number_in most l
unfolding number_in
number_slice most l n e = ap (number_at most) (rest-all l n ∙ ap (λ (j : ℕ). drop j l) e)

module _ (most : ℕ) (text : List ℕ) (n : ℕ) (e : n ≡ digits text) where
  -- no digit
  pub number_none : n ≡ 0 → None ≡ number_at most text
  unfolding number_at
  number_none z = rw (le-ltb 0 (digits text) (omega arith))

  module _ (k : ℕ) (f : k ≡ blanks (take (length text - n) (drop n text))) where
    behind-digits : k ≡ blanks (drop (digits text) text)
    behind-digits = f ∙ ap blanks (rest-all text n ∙ ap (λ (j : ℕ). drop j text) e)

    -- something behind the digits
    pub number_more : (k ≡ length text - n → ⊥) → None ≡ number_at most text
    unfolding number_at
    number_more h =
        let rest = drop (digits text) text in
        let q : eqb (blanks rest) (length rest) ≡ false = ne_eqb (blanks rest) (length rest) (λ d. h (behind-digits ∙ d ∙ length-drop (digits text) text ∙ ap (λ (j : ℕ). length text - j) (sym e))) in
        sym (ap (λ (b : Bool). cond (ltb 0 (digits text) && b) (decimal_in most (take (digits text) text)) (None)) q ∙ none (ltb 0 (digits text)))
      where
        none : (b : Bool) → cond (b && false) (decimal_in most (take (digits text) text)) (None) ≡ None
        none true = refl
        none false = refl

    -- a number and blanks
    pub number_whole : (n ≡ 0 → ⊥) → k ≡ length text - n → decimal_in most (take n text) ≡ number_at most text
    unfolding number_at
    number_whole p h =
        let rest = drop (digits text) text in
        let q : eqb (blanks rest) (length rest) ≡ true = eq-eqb (blanks rest) (length rest) (sym behind-digits ∙ h ∙ ap (λ (j : ℕ). length text - j) e ∙ sym (length-drop (digits text) text)) in
        let s : ltb 0 (digits text) ≡ true = lt-ltb 0 (digits text) (omega arith) in
        let t : (ltb 0 (digits text) && eqb (blanks rest) (length rest)) ≡ true = rw (s, q) in
        ap (λ (j : ℕ). decimal_in most (take j text)) e ∙ sym (ap (λ (b : Bool). cond b (decimal_in most (take (digits text) text)) (None)) t)
