-- Rules 10 and 11 find the smallest place at which their row of the paper's table is broken. Both look at the data of the known items: rule 10 at each of
-- the item's indexes, rule 11 at its fields, which lie in ascending order. Assumes nothing.
use Rattle.std.specs.Prelude.{ℕ, ◌+◌, ◌≤◌, ◌<◌, true, false, not, ◌&&◌, List, [], ◌∷◌, ◌⊎◌, ◌≡◌, leb, length}
use Rattle.std.proofs.Common.{inl, inr, subst, arith, leb-true, le-leb}
use Rattle.std.proofs.Math.Path.{refl, ap₂}
use Rattle.chain.specs.Finds.{Among, Finds}
use Rattle.chain.specs.First.{first, or_else, when}
use Rattle.chain.specs.Found.{Found}
use Rattle.chain.proofs.laws.Clauses.{Clause, test, several}
use Rattle.chain.proofs.laws.Finds.{finds-as, finds-under}
use Rattle.chain.proofs.laws.First.{or_else-nothing}
use Rattle.chain.proofs.laws.Means.{Means, means-above, means-false, means-fails}
use Rattle.kinds.specs.Kinds.{listed}
use Rattle.kinds.specs.declared.Kind.TheVariants.{Tag}
use Rattle.kinds.specs.declared.Kinds.{Kinds}
use Rattle.octets.specs.Bytes.{byte, le16}
use Rattle.octets.specs.Label.{is_text}
use Rattle.tiny_layout.specs.Layout.{data_at, items}
use Rattle.tiny_layout.specs.Pool.{is_known, pool}
use Rattle.tiny_layout.specs.Strings.{texts}
use Rattle.tiny_layout.specs.Tags.{shape_of, index_count, field_bytes}
use Rattle.tiny_layout.specs.declared.Shape.{Shape}
use Rattle.tiny_layout.specs.declared.Shape.TheVariants.{Identity, Batched}
use Rattle.tiny_layout.proofs.laws.Layout.{data-after}
use Rattle.tiny_layout.proofs.laws.Tags.{fields-within, indexes-within}
use Rattle.tiny_rules.specs.Broken.{KnownAt, IdentityAt, Broken10, index_not_below, Broken11, major_out_of_range, minor_out_of_range, characters_out_of_range, batch_out_of_range}
use Rattle.tiny_rules.specs.Rules.{on_known, bad_index, rule10, is_major, bad_revision, bad_batch, bad_field, rule11}
use Rattle.tiny_rules.proofs.laws.BrokenItems.{finds-items, finds-bytes}

-- a known item has the property at z, by the row of its tag and where its data begin
abbrev InKnown : Kinds → List ℕ → (Shape → ℕ → ℕ → Type 0) → ℕ → Type 0
InKnown k s B z = (p : ℕ) × (Among (items s) p × ((is_known k s p ≡ true) × B (shape_of (byte s p)) (data_at s p) z))

-- a rule on the data of the known items: where it finds the smallest place in the fields of each, it finds the smallest place of all
finds-known :
    (k : Kinds) (s : List ℕ) (B : Shape → ℕ → ℕ → Type 0) → ((a : Shape) (start z : ℕ) → B a start z → (start ≤ z) × (z < start + field_bytes a)) → (rule : Shape → ℕ → Found)
    → ((a : Shape) (start : ℕ) → Finds (B a start) (rule a start))
    → Finds (InKnown k s B) (first (on_known k s rule) (items s))
finds-known k s B inside rule each =
    finds-items s (λ p z. (is_known k s p ≡ true) × B (shape_of (byte s p)) (data_at s p) z)
    (λ p z h.
    let w = inside (shape_of (byte s p)) (data_at s p) z h.1 in
    (omega (arith, w.0, data-after s p), omega (arith, w.1, fields-within s p)))
    (on_known k s rule)
    (λ p.
    finds-under (λ z. (is_known k s p ≡ true) × B (shape_of (byte s p)) (data_at s p) z) (is_known k s p) (rule (shape_of (byte s p)) (data_at s p))
    (λ e.
    finds-as (B (shape_of (byte s p)) (data_at s p)) (λ z. (is_known k s p ≡ true) × B (shape_of (byte s p)) (data_at s p) z) (λ z b. (e, b)) (λ z h. h.1)
    (rule (shape_of (byte s p)) (data_at s p)) (each (shape_of (byte s p)) (data_at s p)))
    (λ z h. h.0))

-- ---- rule 10
-- an index not below the count, in the data of an item
abbrev Beyond : List ℕ → ℕ → Shape → ℕ → ℕ → Type 0
Beyond s count a start z = (start ≤ z) × (z < start + index_count a) × (count ≤ byte s z)

-- the item's indexes, byte by byte
finds-index : (s : List ℕ) (count : ℕ) (a : Shape) (start : ℕ) → Finds (Beyond s count a start) (bad_index s count a start)
unfolding bad_index
finds-index s count a start =
    finds-bytes (Beyond s count a start) (λ q. leb count (byte s q)) start (start + index_count a) (λ z i j t. (i, j, leb-true count (byte s z) t))
    (λ z h. (h.0, h.1, le-leb count (byte s z) h.2))

-- 10: pool listed, known item's index not below the string count
pub finds10 : (k : Kinds) (s : List ℕ) → Finds (Broken10 k s) (rule10 k s)
unfolding rule10
finds10 k s =
    let count : ℕ = length (texts s (pool k s)) in
    let rule : ℕ → Found = on_known k s (bad_index s count) in
    finds-under (Broken10 k s) (listed k (Tag 0x01)) (first rule (items s))
    (λ e.
    finds-as (InKnown k s (Beyond s count)) (Broken10 k s)
    (λ z h. index_not_below e h.0 (h.1.0, h.1.1.0) h.1.1.1.0 h.1.1.1.1 h.1.1.1.2)
    (λ z b. elim b [ index_not_below m p l i j c ↦ (p, (l.0, (l.1, (i, j, c)))) ]) (first rule (items s))
    (finds-known k s (Beyond s count) (λ a start z h. (h.0, omega (arith, h.1, indexes-within a))) (bad_index s count) (finds-index s count)))
    (λ z b. elim b [ index_not_below m p l i j c ↦ m ])

-- ---- rule 11
module _ (s : List ℕ) where
  -- one of the two characters at z is none
  abbrev Unwritten : ℕ → Type 0
  Unwritten z = (is_text (byte s z) ≡ false) ⊎ (is_text (byte s (z + 1)) ≡ false)

  means-unwritten : (start : ℕ) → Means (not (is_text (byte s (start + 4)) && is_text (byte s (start + 5)))) (Unwritten (start + 4))
  means-unwritten start =
      let second : start + 4 + 1 ≡ start + 5 = omega arith in rw second (means-fails (is_text (byte s (start + 4))) (is_text (byte s (start + 5))))

  -- the clauses of data that begin at a place: major, minor and characters, and batch
  abbrev revision : ℕ → Clause
  revision start =
      several
      (test (λ z. is_major (byte s z) ≡ false) (start + 2) (means-false (is_major (byte s (start + 2))))
      ∷ test (λ z. 99 < byte s z) (start + 3) (means-above 99 (byte s (start + 3)))
      ∷ test Unwritten (start + 4) (means-unwritten start)
      ∷ [])
      start (start + 5) (omega arith)

  abbrev batch : ℕ → Clause
  batch start = test (λ z. 9999 < le16 s z) (start + 6) (means-above 9999 (le16 s (start + 6)))

  -- by the row of the tag: the batch lies behind the revision
  abbrev fields : Shape → ℕ → Clause
  fields Shape.Pool start = several [] start start (omega arith)
  fields Shape.Serial start = several [] start start (omega arith)
  fields Shape.Flags start = several [] start start (omega arith)
  fields Shape.Address start = several [] start start (omega arith)
  fields Shape.Identity start = revision start
  fields Shape.Batched start = several (revision start ∷ batch start ∷ []) start (start + 7) (omega arith)
  fields Shape.Other start = several [] start start (omega arith)

  -- a field out of range
  abbrev BadField : Shape → ℕ → ℕ → Type 0
  BadField a start = (fields a start).broken

  -- it lies in the item's fields
  field-inside : (a : Shape) (start z : ℕ) → BadField a start z → (start ≤ z) × (z < start + field_bytes a)
  field-inside Shape.Pool start z h = absurd h
  field-inside Shape.Serial start z h = absurd h
  field-inside Shape.Flags start z h = absurd h
  field-inside Shape.Address start z h = absurd h
  field-inside Shape.Identity start z h = let w = (fields Identity start).within z h in (w.0, omega (arith, w.1))
  field-inside Shape.Batched start z h = let w = (fields Batched start).within z h in (w.0, omega (arith, w.1))
  field-inside Shape.Other start z h = absurd h

  -- and is what rule 11 looks for
  looked-revision : (start : ℕ) → (revision start).found ≡ bad_revision s start
  unfolding bad_revision
  looked-revision start =
      rw (or_else-nothing (when (not (is_text (byte s (start + 4)) && is_text (byte s (start + 5)))) (start + 4)))

  looked-for : (a : Shape) (start : ℕ) → (fields a start).found ≡ bad_field s a start
  unfolding bad_batch
  looked-for Shape.Pool start = refl
  looked-for Shape.Serial start = refl
  looked-for Shape.Flags start = refl
  looked-for Shape.Address start = refl
  looked-for Shape.Identity start = looked-revision start
  looked-for Shape.Batched start = ap₂ or_else (looked-revision start) (or_else-nothing (bad_batch s start))
  looked-for Shape.Other start = refl

  finds-field : (a : Shape) (start : ℕ) → Finds (BadField a start) (bad_field s a start)
  finds-field a start = subst (Finds (BadField a start)) (looked-for a start) (fields a start).finds

-- 11: known item: major, minor, characters or batch out of range
pub finds11 : (k : Kinds) (s : List ℕ) → Finds (Broken11 k s) (rule11 k s)
unfolding rule11
finds11 k s =
    finds-as (InKnown k s (BadField s)) (Broken11 k s)
    (λ z h. to h.0 z h.1.0 h.1.1.0 (shape_of (byte s h.0)) refl h.1.1.1)
    (λ z b.
    elim b [
      | major_out_of_range p i e c ↦ revised p z i (inl (e, c))
      | minor_out_of_range p i e c ↦ revised p z i (inr (inl (e, c)))
      | characters_out_of_range p i e c ↦ revised p z i (inr (inr (inl (e, c))))
      | batch_out_of_range p i e c ↦ from p z Batched i (inr (inl (e, c)))
    ])
    (first (on_known k s (bad_field s)) (items s)) (finds-known k s (BadField s) (field-inside s) (bad_field s) (finds-field s))
  where
    -- from a field of an item to its clause of the row
    revised-at : (p z : ℕ) → IdentityAt k s p → (revision s (data_at s p)).broken z → Broken11 k s z
    revised-at p z i (inl h) = major_out_of_range p i h.0 h.1
    revised-at p z i (inr (inl h)) = minor_out_of_range p i h.0 h.1
    revised-at p z i (inr (inr (inl h))) = characters_out_of_range p i h.0 h.1
    revised-at p z i (inr (inr (inr h))) = absurd h

    to : (p z : ℕ) → Among (items s) p → is_known k s p ≡ true → (a : Shape) → shape_of (byte s p) ≡ a → BadField s a (data_at s p) z → Broken11 k s z
    to p z i m Shape.Pool e h = absurd h
    to p z i m Shape.Serial e h = absurd h
    to p z i m Shape.Flags e h = absurd h
    to p z i m Shape.Address e h = absurd h
    to p z i m Shape.Identity e h = revised-at p z (inl ((i, m), e)) h
    to p z i m Shape.Batched e (inl h) = revised-at p z (inr ((i, m), e)) h
    to p z i m Shape.Batched e (inr (inl h)) = batch_out_of_range p ((i, m), e) h.0 h.1
    to p z i m Shape.Batched e (inr (inr h)) = absurd h
    to p z i m Shape.Other e h = absurd h

    -- and back
    from : (p z : ℕ) (a : Shape) → KnownAt k s p × (shape_of (byte s p) ≡ a) → BadField s a (data_at s p) z → InKnown k s (BadField s) z
    from p z a i h = (p, (i.0.0, (i.0.1, rw i.1 h)))

    revised : (p z : ℕ) → IdentityAt k s p → (revision s (data_at s p)).broken z → InKnown k s (BadField s) z
    revised p z (inl i) h = from p z Identity i h
    revised p z (inr i) h = from p z Batched i (inl h)
