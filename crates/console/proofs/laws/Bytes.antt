-- A loop that reads the bytes of a part and puts them into a buffer. Assumes nothing.
use Rattle.std.specs.Prelude.{ℕ, zero, suc, ◌+◌, ◌≤◌, ◌<◌, Bool, cond, ◌&&◌, ◌≡◌, eqb, set, drop, Option, Some, None}
use Rattle.std.proofs.Math.Bool.{true, false}
use mathlib.Core.List.{List, [], ◌∷◌}
use Rattle.std.proofs.Math.Path.{refl, sym, ap}
use Rattle.std.proofs.Common.{◌∙◌, subst, le_of_suc-le-suc, eq-or-lt_of_le, add-zero, add-one, arith, length-set, inl, inr}
use Rattle.std.proofs.Math.Dec.{leb, ltb}
use Rattle.std.proofs.Math.ListN.{length, get_or, get_or-eq_default}
use Rattle.std.proofs.Math.Seq.{get_or-drop}
use borrow.Author.Tests.{eq-eqb, ne_eqb, lt-ltb, le-ltb, le-leb, lt-leb}
use Rattle.console.specs.Request.{value, given, two_digits, bytes_in, all_pairs, count_in, over}
use Rattle.console.proofs.laws.Request.{rest-more, rest-end}

-- bytes put over a buffer from place n on
unfoldable pub over_at : ℕ → List ℕ → List ℕ → List ℕ
over_at zero bs buffer = over bs buffer
over_at (suc n) bs [] = []
over_at (suc n) bs (x ∷ xs) = x ∷ over_at n bs xs

over-none : (buffer : List ℕ) (n : ℕ) → over_at n [] buffer ≡ buffer
unfolding over_at over
over-none buffer zero = refl
over-none [] (suc n) = refl
over-none (x ∷ xs) (suc n) = ap (λ (l : List ℕ). x ∷ l) (over-none xs n)

over-nil : (bs : List ℕ) → over bs [] ≡ []
unfolding over
over-nil [] = refl
over-nil (b ∷ bs) = refl

over-full : (buffer bs : List ℕ) (n : ℕ) → length buffer ≤ n → over_at n bs buffer ≡ buffer
unfolding over_at
over-full [] bs zero h = over-nil bs
over-full [] bs (suc n) h = refl
over-full (x ∷ xs) bs zero h = absurd (omega arith)
over-full (x ∷ xs) bs (suc n) h = ap (λ (l : List ℕ). x ∷ l) (over-full xs bs n (le_of_suc-le-suc h))

over-one : (buffer : List ℕ) (b : ℕ) (bs : List ℕ) (n : ℕ) → n < length buffer → over_at (suc n) bs (set buffer n b) ≡ over_at n (b ∷ bs) buffer
unfolding over_at over
over-one [] b bs n h = absurd (omega arith)
over-one (x ∷ xs) b bs zero h = refl
over-one (x ∷ xs) b bs (suc n) h = ap (λ (l : List ℕ). x ∷ l) (over-one xs b bs n (le_of_suc-le-suc h))

-- ---- what a blank, a pair of digits and anything else at the front of a list add
bytes-blank : (c : ℕ) (cs : List ℕ) → eqb c 0x20 ≡ true → bytes_in (c ∷ cs) ≡ bytes_in cs
unfolding bytes_in
bytes-blank c [] e = refl
bytes-blank c (d ∷ cs) e = rw e

pairs-blank : (c : ℕ) (cs : List ℕ) → eqb c 0x20 ≡ true → all_pairs (c ∷ cs) ≡ all_pairs cs
unfolding all_pairs
pairs-blank c [] e = e
pairs-blank c (d ∷ cs) e = rw e

bytes-pair : (c d : ℕ) (cs : List ℕ) → eqb c 0x20 ≡ false → ltb (two_digits c d) 256 ≡ true → bytes_in (c ∷ (d ∷ cs)) ≡ two_digits c d ∷ bytes_in cs
unfolding bytes_in
bytes-pair c d cs e h = rw (e, h)

pairs-pair : (c d : ℕ) (cs : List ℕ) → eqb c 0x20 ≡ false → ltb (two_digits c d) 256 ≡ true → all_pairs (c ∷ (d ∷ cs)) ≡ all_pairs cs
unfolding all_pairs
pairs-pair c d cs e h = rw (e, h)

-- past the end of a list a character reads as 0, which is no digit
bytes-other : (c : ℕ) (cs : List ℕ) → eqb c 0x20 ≡ false → ltb (two_digits c (get_or cs 0 0)) 256 ≡ false → bytes_in (c ∷ cs) ≡ []
unfolding bytes_in
bytes-other c [] e h = refl
bytes-other c (d ∷ cs) e h = rw (e, h)

pairs-other : (c : ℕ) (cs : List ℕ) → eqb c 0x20 ≡ false → ltb (two_digits c (get_or cs 0 0)) 256 ≡ false → all_pairs (c ∷ cs) ≡ false
unfolding all_pairs
pairs-other c [] e h = e
pairs-other c (d ∷ cs) e h = rw (e, h)

two-end : (c : ℕ) → two_digits c 0 ≡ 256
unfolding two_digits value
two-end c = go (ltb 15 (value c))
  where
    go : (b : Bool) → ◌≡◌ {A = ℕ} (cond b 256 256) 256
    go true = refl
    go false = refl

-- where there are two digits, there are two characters
two-within : (l : List ℕ) (at c b : ℕ) → at < length l → b ≡ two_digits c (get_or l (at + 1) 0) → b < 256 → at + 1 < length l
two-within l at c b h e k =
    elim (eq-or-lt_of_le h) [
      | inl z ↦ absurd (omega (arith, e, ap (two_digits c) (get_or-eq_default l 0 {n = at + 1} (omega arith)), two-end c))
      | inr z ↦ omega arith
    ]

-- ---- the loop
module _ (l lent : List ℕ) where
  -- at place `at` of part l it has put n bytes into the lent buffer
  pub record Going (at n : ℕ) (buffer : List ℕ) : Type 0 where
    pub pairs : all_pairs (drop at l) ≡ all_pairs l
    pub number : n + length (bytes_in (drop at l)) ≡ length (bytes_in l)
    pub holds : over_at n (bytes_in (drop at l)) buffer ≡ over (bytes_in l) lent
    pub room : n ≤ length buffer
    pub long : length buffer ≡ length lent

  -- what it answers, and what the buffer then holds
  abbrev pub Ended : Option ℕ → List ℕ → Type 0
  Ended r buffer = (r ≡ count_in (length lent) l) × (buffer ≡ over (bytes_in l) lent)

  pub going_start : Going 0 0 lent
  unfolding over_at
  going_start = record { pairs = refl; number = omega arith; holds = refl; room = omega arith; long = refl }

  module _ (at n : ℕ) (buffer : List ℕ) (g : Going at n buffer) where
    pub going_done : length l ≤ at → Ended (Some n) buffer
    unfolding count_in bytes_in all_pairs
    going_done h =
        let z = rest-end l at h in
        let e : n ≡ length (bytes_in l) = omega (arith, g.number, ap (λ (m : List ℕ). length (bytes_in m)) z) in
        let p : all_pairs l ≡ true = sym g.pairs ∙ ap all_pairs z in
        let s : leb (length (bytes_in l)) (length lent) ≡ true = le-leb (length (bytes_in l)) (length lent) (omega (arith, e, g.room, g.long)) in
        (rw (p, s, e), sym (over-none buffer n) ∙ sym (ap (λ (m : List ℕ). over_at n (bytes_in m) buffer) z) ∙ g.holds)

    module _ (h : at < length l) where
      two-rest : (b : ℕ) → b ≡ two_digits (get_or l at 0) (get_or l (at + 1) 0) → b < 256 → drop at l ≡ get_or l at 0 ∷ (get_or l (at + 1) 0 ∷ drop (at + 2) l)
      two-rest b e k =
          let z : at + 1 + 1 ≡ at + 2 = omega arith in
          rest-more l at h
          ∙ ap (λ (m : List ℕ). get_or l at 0 ∷ m) (rest-more l (at + 1) (two-within l at (get_or l at 0) b h e k) ∙ ap (λ (j : ℕ). get_or l (at + 1) 0 ∷ drop j l) z)

      pub going_blank : get_or l at 0 ≡ 0x20 → Going (at + 1) n buffer
      going_blank e =
          let b = eq-eqb _ _ e in
          let m = rest-more l at h in
          let f : bytes_in (drop at l) ≡ bytes_in (drop (at + 1) l) = ap bytes_in m ∙ bytes-blank _ _ b in
          record {
            pairs = sym (ap all_pairs m ∙ pairs-blank _ _ b) ∙ g.pairs;
            number = omega (arith, g.number, ap (λ (k : List ℕ). length k) f);
            holds = sym (ap (λ (k : List ℕ). over_at n k buffer) f) ∙ g.holds;
            room = g.room;
            long = g.long;
          }

      module _ (other : get_or l at 0 ≡ 0x20 → ⊥) where
        -- a pair of digits, and room for its byte
        pub going_pair : (b : ℕ) → b ≡ two_digits (get_or l at 0) (get_or l (at + 1) 0) → b < 256 → n < length buffer → Going (at + 2) (n + 1) (set buffer n b)
        going_pair b e k s =
            let m = two-rest b e k in
            let o = ne_eqb (get_or l at 0) 0x20 other in
            let t : ltb (two_digits (get_or l at 0) (get_or l (at + 1) 0)) 256 ≡ true = lt-ltb _ 256 (subst (λ (x : ℕ). x < 256) e k) in
            let f : bytes_in (drop at l) ≡ b ∷ bytes_in (drop (at + 2) l) = ap bytes_in m ∙ bytes-pair _ _ _ o t ∙ ap (λ (x : ℕ). x ∷ bytes_in (drop (at + 2) l)) (sym e) in
            let z : n + 1 ≡ suc n = add-one n in
            record {
              pairs = sym (ap all_pairs m ∙ pairs-pair _ _ _ o t) ∙ g.pairs;
              number = omega (arith, g.number, ap (λ (k : List ℕ). length k) f);
              holds =
                  ap (λ (k : ℕ). over_at k (bytes_in (drop (at + 2) l)) (set buffer n b)) z ∙ over-one buffer b (bytes_in (drop (at + 2) l)) n s
                  ∙ sym (ap (λ (k : List ℕ). over_at n k buffer) f) ∙ g.holds;
              room = simp length-set (omega arith);
              long = length-set buffer n b ∙ g.long;
            }

        -- a pair of digits, and no room
        pub going_full : (b : ℕ) → b ≡ two_digits (get_or l at 0) (get_or l (at + 1) 0) → b < 256 → length buffer ≤ n → Ended (None) buffer
        unfolding count_in
        going_full b e k s =
            let m = two-rest b e k in
            let o = ne_eqb (get_or l at 0) 0x20 other in
            let t : ltb (two_digits (get_or l at 0) (get_or l (at + 1) 0)) 256 ≡ true = lt-ltb _ 256 (subst (λ (x : ℕ). x < 256) e k) in
            let f : bytes_in (drop at l) ≡ two_digits (get_or l at 0) (get_or l (at + 1) 0) ∷ bytes_in (drop (at + 2) l) = ap bytes_in m ∙ bytes-pair _ _ _ o t in
            let q : leb (length (bytes_in l)) (length lent) ≡ false = lt-leb (length (bytes_in l)) (length lent) (omega (arith, g.number, g.long, ap (λ (k : List ℕ). length k) f)) in
            (sym (ap (λ (x : Bool). given (all_pairs l && x) (length (bytes_in l))) q ∙ none (all_pairs l)), sym (over-full buffer (bytes_in (drop at l)) n s) ∙ g.holds)
          where
            none : (x : Bool) → given (x && false) (length (bytes_in l)) ≡ None
            none true = refl
            none false = refl

        -- something else
        pub going_bad : 256 ≤ two_digits (get_or l at 0) (get_or l (at + 1) 0) → Ended (None) buffer
        unfolding count_in
        going_bad k =
            let m = rest-more l at h in
            let o = ne_eqb (get_or l at 0) 0x20 other in
            let d : get_or (drop (at + 1) l) 0 0 ≡ get_or l (at + 1) 0 = get_or-drop (at + 1) l 0 0 ∙ ap (λ (j : ℕ). get_or l j 0) (add-zero (at + 1)) in
            let t : ltb (two_digits (get_or l at 0) (get_or (drop (at + 1) l) 0 0)) 256 ≡ false = ap (λ (x : ℕ). ltb (two_digits (get_or l at 0) x) 256) d ∙ le-ltb _ 256 k in
            let p : all_pairs l ≡ false = sym g.pairs ∙ ap all_pairs m ∙ pairs-other _ _ o t in
            let f : bytes_in (drop at l) ≡ [] = ap bytes_in m ∙ bytes-other _ _ o t in
            (rw p, sym (over-none buffer n) ∙ sym (ap (λ (k : List ℕ). over_at n k buffer) f) ∙ g.holds)
