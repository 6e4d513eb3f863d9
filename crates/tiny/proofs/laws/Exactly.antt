-- When each refusal and each unknown item comes, in an accepted image: 42 for a number that is not below the count, and an item for every other; fields
-- that are not known where the tag is not on the list; no name without an only serial or without 01 on the list; 43 where the text is longer than the
-- buffer. And of every image: a refused name leaves the lent buffer as it was, and no answer changes its length. Assumes nothing.
use Rattle.std.specs.Prelude.{ℕ, ◌+◌, ◌≤◌, ◌<◌, Bool, cond, ◌⊎◌, ◌↔◌, ◌≡◌, eqb, get_or, Some, None, Ok, Err}
use Rattle.std.proofs.Math.Bool.{true, false}
use Rattle.std.proofs.lemmas.Bool.{false≢true}
use mathlib.Core.List.{List, [], ◌∷◌, ◌++◌}
use Rattle.std.proofs.Math.Logic.{inl, inr}
use Rattle.std.proofs.Math.Path.{refl, ap}
use Rattle.std.proofs.Common.{sym, subst, ◌∙◌, arith, eqb-true, leb-true}
use Rattle.std.proofs.Math.Dec.{leb}
use Rattle.std.proofs.Math.ListN.{length, drop}
use Rattle.chain.specs.All.{All}
use Rattle.chain.specs.Fill.{filled}
use Rattle.chain.specs.Keep.{only}
use Rattle.chain.specs.Nth.{nth}
use Rattle.chain.specs.Found.{Found}
use Rattle.chain.proofs.laws.Below.{below}
use Rattle.chain.proofs.laws.Fill.{length-filled}
use Rattle.chain.proofs.laws.Nth.{nth-below, nth-past}
use Rattle.kinds.specs.Kinds.{Row, marked, tags, listed}
use Rattle.kinds.specs.declared.Kind.TheVariants.{Tag}
use Rattle.kinds.specs.declared.Kinds.{Kinds}
use Rattle.octets.specs.Bytes.{byte}
use Rattle.octets.specs.declared.Span.{Span}
use Rattle.tiny_layout.specs.Layout.{data_at, items}
use Rattle.tiny_layout.specs.Pool.{pool}
use Rattle.tiny_layout.specs.Strings.{letter, texts, text_of}
use Rattle.tiny_layout.specs.Tags.{shape_of}
use Rattle.tiny_layout.specs.declared.Pool.{Pool}
use Rattle.tiny_layout.specs.Reference.{Reference}
use Rattle.tiny_rules.specs.Judged.{judged}
use Rattle.tiny_rules.proofs.laws.Accepted.{accepted-count}
use Rattle.tiny.specs.Answers.{refused_with, numbered, item_if, item_numbered, serials, serial_of, copied, name_at, name_if, name_of}
use Rattle.tiny.specs.Items.{fields_at, item_at}
use Rattle.tiny.specs.Values.{FieldValues, not_known, ItemValues, field_values, item_values, item_said}
use Rattle.tiny.specs.declared.Item.{Item}
use Rattle.tiny.specs.AnswerTypes.{NameAnswer}
use Rattle.tiny.proofs.laws.Resolved.{reference-unlisted, item-view, name-is-text, name-too-long}
use Rattle.tiny.proofs.laws.Serials.{serial-known, serial-shown}
use Rattle.verdict.specs.Said.{says, refused}
use Rattle.verdict.specs.Answers.{Judged}
use Rattle.verdict.specs.declared.Refusal.{Refusal}

-- ---- a tag on the list has fields
-- what holds of the number of each row of a table holds of a marked number
marked-holds : (P : ℕ → Type 0) (x : ℕ) (rows : List Row) → All (λ row. P row.0) rows → marked x rows ≡ true → P x
unfolding marked
marked-holds P x [] a m = absurd (false≢true m)
marked-holds P x (row ∷ rows) a m = go (eqb x row.0) refl (λ later. marked-holds P x rows a.1 later) m
  where
    go : (b : Bool) → eqb x row.0 ≡ b → (marked x rows ≡ true → P x) → cond b row.1 (marked x rows) ≡ true → P x
    go true e rest m = subst P (sym (eqb-true x row.0 e)) a.0
    go false e rest m = rest m

-- fields other than "not known"
abbrev pub Filled : FieldValues → Type 0
Filled (FieldValues.pool n p l) = Unit {0}
Filled (FieldValues.serial r) = Unit {0}
Filled (FieldValues.flags b) = Unit {0}
Filled (FieldValues.address bytes) = Unit {0}
Filled (FieldValues.identity x) = Unit {0}
Filled (FieldValues.batched x b) = Unit {0}
Filled FieldValues.not_known = ⊥

pub listed-filled : (k : Kinds) (s : List ℕ) (x : Pool) (p tag : ℕ) → listed k (Tag tag) ≡ true → Filled (field_values s (fields_at s x (shape_of tag) p))
unfolding listed tags shape_of
listed-filled k s x p tag on =
    marked-holds (λ n. Filled (field_values s (fields_at s x (shape_of n) p))) tag (tags k) (tt, (tt, (tt, (tt, (tt, (tt, (tt, (tt, tt)))))))) on

-- ---- the number of a refusal; a length is none
abbrev refusal_number : NameAnswer → ℕ
refusal_number (Ok n) = 0
refusal_number (Err r) = r.number

length-unrefused : (n : ℕ) (r : Refusal) → Ok n ≡ Err r → ⊥
length-unrefused n r e = let z : ◌≡◌ {A = ℕ} 0 1 = cc in omega arith

-- ---- of every image: the answers for a name, by whether the call is refused
module _ (k : Kinds) (s buffer : List ℕ) where
  -- a claim about the answer and the buffer, shown of a refusal with the buffer as it was and of a text that the buffer has room for, holds
  name-view :
      (P : NameAnswer × List ℕ → Type 0) → ((r : Refusal) → P (Err r, buffer))
      → ((span : Span) → span.length ≤ length buffer → P (Ok span.length, text_of s span ++ drop span.length buffer))
      → P (name_of k s buffer)
  unfolding name_of
  name-view P refusal whole = judged_by (judged k s)
    where
      fits : (span : Span) (b : Bool) → leb span.length (length buffer) ≡ b
          → P (cond b (Ok span.length, text_of s span ++ drop span.length buffer) (Err (refused_with 43), buffer))
      fits span true e = whole span (leb-true span.length (length buffer) e)
      fits span false e = refusal (refused_with 43)

      copy : (r : Reference) → P (copied s buffer r)
      copy (Some span) = fits span (leb span.length (length buffer)) refl
      copy None = refusal (refused_with 44)

      found : (f : Found) → P (name_at k s buffer f)
      found (Some p) = copy (serial_of (item_at k s (pool k s) p).item)
      found None = refusal (refused_with 44)

      judged_by : (j : Judged) → P (name_if k s buffer j)
      judged_by (Ok c) = found (only (serials k s))
      judged_by (Err r) = refusal r

  -- a refused call changes no byte of the lent buffer
  pub refused-unchanged : (r : Refusal) → (name_of k s buffer).0 ≡ Err r → (name_of k s buffer).1 ≡ buffer
  refused-unchanged r =
      name-view (λ a. a.0 ≡ Err r → a.1 ≡ buffer) (λ q e. refl) (λ span h e. absurd (length-unrefused span.length r e))

  -- the buffer keeps its length
  pub name-length : length (name_of k s buffer).1 ≡ length buffer
  unfolding filled
  name-length =
      name-view (λ a. length a.1 ≡ length buffer) (λ r. refl)
      (λ span h. length-filled (λ i. letter (byte s (span.place + i))) span.length buffer h)

module _ (k : Kinds) (s : List ℕ) (c : ℕ) (e : judged k s ≡ Ok c) where
  -- ---- item by number
  item-accepted : (n : ℕ) → item_numbered k s n ≡ numbered k s (nth (items s) n)
  unfolding item_numbered
  item-accepted n = ap (item_if k s n) e

  -- a number below the count shows the item of that number
  pub item-answered : (n : ℕ) → n < c → item_said s (item_numbered k s n) ≡ says (item_values s (item_at k s (pool k s) (get_or (items s) n 0)))
  item-answered n h =
      ap (item_said s) (item-accepted n ∙ ap (numbered k s) (nth-below (items s) n (omega (arith, accepted-count k s c e))))

  -- any other gets 42
  pub item-beyond : (n : ℕ) → c ≤ n → item_said s (item_numbered k s n) ≡ refused 42 0
  item-beyond n h =
      ap (item_said s) (item-accepted n ∙ ap (numbered k s) (nth-past (items s) n (omega (arith, accepted-count k s c e))))

  -- an item's fields are not known exactly where its tag is not on the list
  pub unknown-exactly : (n : ℕ) (v : ItemValues) → item_said s (item_numbered k s n) ≡ says v → (v.fields ≡ not_known) ↔ (listed k (Tag v.kind) ≡ false)
  unfolding item_at
  unknown-exactly n =
      item-view k s c e (λ v. (v.fields ≡ not_known) ↔ (listed k (Tag v.kind) ≡ false)) n (λ p d. go p (listed k (Tag (byte s p))) refl)
    where
      go : (p : ℕ) (b : Bool) → listed k (Tag (byte s p)) ≡ b
          → (field_values s (cond b (fields_at s (pool k s) (shape_of (byte s p)) p) Item.NotKnown) ≡ not_known) ↔ (b ≡ false)
      go p true on = (λ h. absurd (subst Filled h (listed-filled k s (pool k s) p (byte s p) on)), λ h. absurd (false≢true (sym h)))
      go p false off = (λ h. refl, λ h. refl)

  -- ---- the name
  module _ (buffer : List ℕ) where
    -- no name exactly where there is no only serial, or 01 is not on the list
    pub no-name-exactly : ((name_of k s buffer).0 ≡ Err (refused_with 44)) ↔ ((only (serials k s) ≡ None) ⊎ (listed k (Tag 0x01) ≡ false))
    unfolding name_of
    no-name-exactly = (to (only (serials k s)) refl (listed k (Tag 0x01)) refl, from)
      where
        to : (f : Found) → only (serials k s) ≡ f → (b : Bool) → listed k (Tag 0x01) ≡ b → (name_of k s buffer).0 ≡ Err (refused_with 44)
            → (only (serials k s) ≡ None) ⊎ (listed k (Tag 0x01) ≡ false)
        to None d b l h = inl d
        to (Some p) d false l h = inr l
        to (Some p) d true l h =
            absurd
            (elim (below (length buffer) (length (get_or (texts s (pool k s)) (byte s (data_at s p)) []))) [
              | inl short ↦ omega (arith, ap refusal_number h, ap (λ (a : NameAnswer × List ℕ). refusal_number a.0) (name-too-long k s c e p d l buffer short))
              | inr room ↦ omega (arith, ap refusal_number h, ap (λ (a : NameAnswer × List ℕ). refusal_number a.0) (name-is-text k s c e p d l buffer room))
            ])

        undecoded : listed k (Tag 0x01) ≡ false → (f : Found) → only (serials k s) ≡ f → (name_at k s buffer f).0 ≡ Err (refused_with 44)
        undecoded off None d = refl
        undecoded off (Some p) d =
            let h = serial-known k s p d in
            ap (λ (r : Reference). (copied s buffer r).0)
            (serial-shown k s p (pool k s) h.mark h.own ∙ reference-unlisted k s off (byte s (data_at s p)))

        from : (only (serials k s) ≡ None) ⊎ (listed k (Tag 0x01) ≡ false) → (name_of k s buffer).0 ≡ Err (refused_with 44)
        from (inl none) = ap (λ (j : Judged). (name_if k s buffer j).0) e ∙ ap (λ (f : Found). (name_at k s buffer f).0) none
        from (inr off) = ap (λ (j : Judged). (name_if k s buffer j).0) e ∙ undecoded off (only (serials k s)) refl

    -- with 01 on the list, the buffer is too short exactly where the only serial's text is longer
    pub too-short-exactly :
        (p : ℕ) → only (serials k s) ≡ Some p → listed k (Tag 0x01) ≡ true
        → ((name_of k s buffer).0 ≡ Err (refused_with 43)) ↔ (length buffer < length (get_or (texts s (pool k s)) (byte s (data_at s p)) []))
    too-short-exactly p one on = (to, λ short. ap (λ (a : NameAnswer × List ℕ). a.0) (name-too-long k s c e p one on buffer short))
      where
        to : (name_of k s buffer).0 ≡ Err (refused_with 43) → length buffer < length (get_or (texts s (pool k s)) (byte s (data_at s p)) [])
        to h =
            elim (below (length buffer) (length (get_or (texts s (pool k s)) (byte s (data_at s p)) []))) [
              | inl short ↦ short
              | inr room ↦ absurd (omega (arith, ap refusal_number h, ap (λ (a : NameAnswer × List ℕ). refusal_number a.0) (name-is-text k s c e p one on buffer room)))
            ]
