-- The items of a run, and the same items in an image: `laid` and `given` are inverse to each other, and a run without a bad item is its items end to
-- end. Assumes nothing.
use Rattle.std.specs.Prelude.{ℕ, ◌+◌, ◌/◌, ◌≤◌, ◌<◌, Bool, true, false, cond, ◌||◌, ◌≡◌, refl, eqb, length, Some, None}
use mathlib.Core.List.{List, [], ◌∷◌, ◌++◌, flatten, append-nil, append_assoc}
use Rattle.std.proofs.Common.{sym, ap, subst, ◌∙◌, add-zero, zero-add, arith, length-append, ltb-false, le-ltb, eqb-true, eq-eqb}
use Rattle.std.proofs.Math.Nat.{sub-zero}
use Rattle.std.proofs.lemmas.Bool.{not-false}
use Rattle.chain.specs.All.{All}
use Rattle.chain.specs.Chain.{chain}
use Rattle.chain.specs.Fill.{tab}
use Rattle.chain.proofs.laws.All.{all-map, all-mapped}
use Rattle.chain.proofs.laws.Chain.{chain-end, chain-more}
use Rattle.chain.proofs.laws.Number.{none-number, number-none, Numbered, number-first}
use Rattle.octets.specs.Bytes.{byte, run}
use Rattle.octets.specs.Cut.{Whole}
use Rattle.octets.proofs.laws.Bytes.{byte-run, run-append, run-all, run-between}
use Rattle.octets.proofs.laws.Cut.{run-whole, size-between, cut-flatten, flatten-cut}
use Rattle.tiny_layout.specs.Layout.{is_long, head_size, data_length, size}
use Rattle.chain.proofs.laws.Checks.{neither}
use Rattle.tiny_writer.specs.Run.{run_size, run_next, run_places, run_items, wrong_length, is_pool_tag, cut_short, bad_item, rule46, laid, given}

-- an item of a run has a byte, and how many it has is read from its own bytes
pub run-some : (r : List ℕ) (p : ℕ) → 0 < run_size r p
unfolding run_size
run-some r p = omega arith

pub run-own : (r t : List ℕ) (p q : ℕ) → ((i : ℕ) → i < run_size r p → byte r (p + i) ≡ byte t (q + i)) → run_size t q ≡ run_size r p
unfolding run_size
run-own r t p q same = ap (λ (n : ℕ). 2 + n) (sym (same 1 (omega arith)))

pub run-grows : (r : List ℕ) (p : ℕ) → p < run_next r p
run-grows r p = omega (arith, run-some r p)

-- a good item: its length byte is its tag's length, it is no pool, and it ends within the run
pub item-good : (r : List ℕ) (p : ℕ) → bad_item r p ≡ false → (byte r (p + 1) ≡ data_length r p) × (is_pool_tag (byte r p) ≡ false) × (p + run_size r p ≤ length r)
unfolding bad_item
item-good r p e =
    let a = neither (wrong_length r p || is_pool_tag (byte r p)) (cut_short r p) e in
    let b = neither (wrong_length r p) (is_pool_tag (byte r p)) a.0 in (
      eqb-true (byte r (p + 1)) (data_length r p) (not-false (eqb (byte r (p + 1)) (data_length r p)) b.0),
      b.1,
      ltb-false (length r) (p + run_size r p) a.1,
    )

pub good-item : (r : List ℕ) (p : ℕ) → byte r (p + 1) ≡ data_length r p → is_pool_tag (byte r p) ≡ false → p + run_size r p ≤ length r → bad_item r p ≡ false
unfolding bad_item
good-item r p e k h = rw (eq-eqb (byte r (p + 1)) (data_length r p) e, k) (le-ltb (length r) (p + run_size r p) h)

-- 46 is not broken: each item is good
pub items-good : (r : List ℕ) → rule46 r ≡ None → All (λ p. bad_item r p ≡ false) (run_places r)
unfolding rule46
items-good r e = number-none (bad_item r) 0 (run_places r) e

-- 46 says the number of the first bad item
pub first-bad : (r : List ℕ) (n : ℕ) → rule46 r ≡ Some n → Numbered (bad_item r) (run_places r) 0 n
unfolding rule46
first-bad r n e = number-first (bad_item r) 0 (run_places r) n e

-- these bytes are one good item of a run
pub record Good (y : List ℕ) : Type 0 where
  pub whole : Whole run_size y
  pub own : byte y 1 ≡ data_length y 0
  pub other : is_pool_tag (byte y 0) ≡ false

-- whether the length byte is the tag's length is told by these two bytes, wherever they lie
own-same : (r t : List ℕ) (p q : ℕ) → byte r p ≡ byte t q → byte r (p + 1) ≡ byte t (q + 1)
    → byte r (p + 1) ≡ data_length r p → byte t (q + 1) ≡ data_length t q
unfolding data_length
own-same r t p q a b e = rw (← a, ← b) e

-- an item's tag and length byte, on its own and in the run
tag-run : (r : List ℕ) (p : ℕ) → byte (run r p (run_size r p)) 0 ≡ byte r p
tag-run r p = byte-run r p (run_size r p) 0 (run-some r p) ∙ ap (byte r) (omega arith)

length-byte-run : (r : List ℕ) (p : ℕ) → byte (run r p (run_size r p)) 1 ≡ byte r (p + 1)
unfolding run_size
length-byte-run r p = byte-run r p (run_size r p) 1 (omega arith)

-- so an item that is good in the run is so on its own, and the other way round
good-alone : (r : List ℕ) (p : ℕ) → bad_item r p ≡ false → Good (run r p (run_size r p))
good-alone r p e =
    let g = item-good r p e in
    record {
      whole = run-whole run_size run-some run-own r p;
      own = own-same r (run r p (run_size r p)) p 0 (sym (tag-run r p)) (sym (length-byte-run r p)) g.0;
      other = ap is_pool_tag (tag-run r p) ∙ g.1;
    }

good-in-run : (r : List ℕ) (p : ℕ) → Good (run r p (run_size r p)) → p + run_size r p ≤ length r → bad_item r p ≡ false
good-in-run r p g h =
    good-item r p (own-same (run r p (run_size r p)) r 0 p (tag-run r p) (length-byte-run r p) g.own)
    (ap is_pool_tag (sym (tag-run r p)) ∙ g.other) h

-- the items of a run where 46 is not broken: each is good, and end to end they are the run
pub run-good : (r : List ℕ) → rule46 r ≡ None → All Good (run_items r)
run-good r e =
    all-mapped Good (λ p. run r p (run_size r p)) (run_places r)
    (all-map (λ p. bad_item r p ≡ false) (λ p. Good (run r p (run_size r p))) (good-alone r) (run_places r) (items-good r e))

pub run-flatten : (r : List ℕ) → rule46 r ≡ None → flatten (run_items r) ≡ r
run-flatten r e =
    flatten-cut run_size run-some r (length r) 0
    (all-map (λ p. bad_item r p ≡ false) (λ p. p + run_size r p ≤ length r) (λ p b. (item-good r p b).2) (run_places r) (items-good r e))
    (omega arith)
    ∙ ap (run r 0) (sub-zero (length r)) ∙ run-all r

-- and good items end to end are a run of these items, where 46 is not broken
pub flatten-run : (ys : List (List ℕ)) → All Good ys → run_items (flatten ys) ≡ ys
flatten-run ys g =
    rw (append-nil, zero-add) at (cut-flatten run_size run-some run-own ys [] [] (all-map Good (Whole run_size) (λ y k. k.whole) ys g))

-- `flatten-good` with other bytes in front
places-good : (r a : List ℕ) (ys : List (List ℕ)) → r ≡ a ++ flatten ys → All Good ys
    → All (λ p. bad_item r p ≡ false) (chain (run_next r) (length r) (length a))
unfolding flatten
places-good r a [] e g =
    let h : length r ≤ length a = omega (arith, ap length e, length-append a []) in
    rw (chain-end (run_next r) (length r) (run-grows r) (length a) h) tt
places-good r a (y ∷ ys) e g =
    let n : run_size r (length a) ≡ length y = rw e (size-between run_size run-some run-own a y (flatten ys) g.0.whole) in
    let i : run r (length a) (run_size r (length a)) ≡ y = rw (n, e) (run-between a y (flatten ys)) in
    let k : length r ≡ length a + (length y + length (flatten ys)) = rw e (simp length-append refl) in
    rw (chain-more (run_next r) (length r) (run-grows r) (length a) (omega (arith, run-some r (length a))), n, ← length-append a y)
    (good-in-run r (length a) (subst Good (sym i) g.0) (omega arith), places-good r (a ++ y) ys (e ∙ sym (append_assoc a y (flatten ys))) g.1)

pub flatten-good : (ys : List (List ℕ)) → All Good ys → rule46 (flatten ys) ≡ None
unfolding rule46
flatten-good ys g = none-number (bad_item (flatten ys)) 0 (run_places (flatten ys)) (places-good (flatten ys) [] ys refl g)

-- a good item by its tag: a long one, and one that says the length itself
good-cases : (P : List ℕ → Type 0)
    → ((tag : ℕ) (bytes : List ℕ) → is_long tag ≡ true → P (tag ∷ (length bytes ∷ bytes)))
    → ((tag : ℕ) (bytes : List ℕ) → is_long tag ≡ false → tag / 16 ≡ length bytes → P (tag ∷ (tag / 16 ∷ bytes)))
    → (y : List ℕ) → Good y → P y
unfolding run_size data_length
good-cases P long short [] g = absurd (omega (arith, g.whole))
good-cases P long short (tag ∷ []) g = absurd (omega (arith, g.whole))
good-cases P long short (tag ∷ (n ∷ bytes)) g = go (is_long tag) refl g.own
  where
    go : (b : Bool) → is_long tag ≡ b → n ≡ cond b n (tag / 16) → P (tag ∷ (n ∷ bytes))
    go true e o = let k : n ≡ length bytes = omega (arith, g.whole) in rw k (long tag bytes e)
    go false e o = rw o (short tag bytes e (omega (arith, g.whole)))

-- an item laid in an image is one item there, of the same tag, and given again it is as before
pub laid-whole : (y : List ℕ) → Good y → Whole size (laid y)
unfolding head_size data_length
laid-whole = good-cases (λ y. Whole size (laid y)) (λ tag bytes e. rw (e, e) (omega arith)) (λ tag bytes e k. rw (e, e) (omega arith))

pub laid-tag : (y : List ℕ) → byte (laid y) 0 ≡ byte y 0
laid-tag [] = refl
laid-tag (tag ∷ []) = refl
laid-tag (tag ∷ (n ∷ bytes)) = go (is_long tag)
  where
    go : (b : Bool) → byte (cond b (tag ∷ (n ∷ bytes)) (tag ∷ bytes)) 0 ≡ tag
    go true = refl
    go false = refl

pub given-laid : (y : List ℕ) → Good y → given (laid y) ≡ y
given-laid = good-cases (λ y. given (laid y) ≡ y) (λ tag bytes e. rw (e, e)) (λ tag bytes e k. rw (e, e))

-- an item of an image that is no pool is a good item of a run; and laid again it is as before
pub given-good : (x : List ℕ) → Whole size x → is_pool_tag (byte x 0) ≡ false → Good (given x)
unfolding head_size data_length run_size
given-good [] w k = absurd (omega (arith, w))
given-good (tag ∷ bytes) w k = go (is_long tag) refl
  where
    go : (b : Bool) → is_long tag ≡ b → Good (given (tag ∷ bytes))
    go true e = rw e (record { whole = rw e at w; own = rw e refl; other = k })
    go false e = rw e (record { whole = omega (arith, rw e at w); own = rw e refl; other = k })

-- an item with a long tag lies in an image as it is
laid-long : (tag : ℕ) (bytes : List ℕ) → is_long tag ≡ true → laid (tag ∷ bytes) ≡ tag ∷ bytes
laid-long tag [] e = refl
laid-long tag (n ∷ bytes) e = rw e

pub laid-given : (x : List ℕ) → laid (given x) ≡ x
laid-given [] = refl
laid-given (tag ∷ bytes) = go (is_long tag) refl
  where
    go : (b : Bool) → is_long tag ≡ b → laid (given (tag ∷ bytes)) ≡ tag ∷ bytes
    go true e = rw e (laid-long tag bytes e)
    go false e = rw (e, e)

-- the item at a place of a run as it lies in an image: the tag, the length byte of a long tag, and the data
pub laid-at : (r : List ℕ) (p : ℕ) → laid (run r p (run_size r p)) ≡ run r p (head_size (byte r p)) ++ run r (p + 2) (byte r (p + 1))
unfolding run_size head_size tab
laid-at r p = rw (run-append r p 2 (byte r (p + 1))) (go (is_long (byte r p)) refl)
  where
    go : (b : Bool) → is_long (byte r p) ≡ b
        → laid (run r p 2 ++ run r (p + 2) (byte r (p + 1))) ≡ run r p (head_size (byte r p)) ++ run r (p + 2) (byte r (p + 1))
    go true e = rw (add-zero, e, add-zero)
    go false e = rw (add-zero, e, add-zero)
