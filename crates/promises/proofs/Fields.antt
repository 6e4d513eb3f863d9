-- What is shown is what the papers' tables define: the fields of an item under their labels, the pool's string count, strings and the name, and records by number,
-- each from the laws of its crate. Assumes nothing.
use Rattle.std.specs.Prelude.{Some, None, Ok, Err}
use Prim.Native.Nat.{ℕ, ◌+◌}
use mathlib.Core.Bool.{Bool, true, false, cond, ◌&&◌}
use mathlib.Core.List.{List, []}
use mathlib.Core.Logic.{◌⊎◌, inl, inr, ◌↔◌}
use mathlib.Core.Path.{◌≡◌, refl, sym, ap, ap₂, ◌∙◌}
use native.Mathlib.Omega.{arith}
use lib.ListN.{length}
use Rattle.board.specs.Answers.{map_record, map_record_if, map_record_numbered, is_gpio, gpio_record, gpio_records_at, gpio_record_if, gpio_record_numbered}
use Rattle.board.specs.Shown.{record_shown}
use Rattle.board.specs.Values.{map_record_said, gpio_record_said}
use Rattle.board.proofs.laws.AlikeBytes.{gpio-shape}
use Rattle.board.proofs.laws.Rows as board-rows
use Rattle.board_layout.specs.Layout.{shape_at, structures, map_at, records}
use Rattle.board_layout.specs.Shapes.{knows}
use Rattle.board_layout.specs.declared.Records.TheVariants.{Map, Gpio}
use Rattle.board_layout.specs.declared.Shape.{Shape}
use Rattle.board_rules.proofs.laws.Accepted.{structures-are}
use Rattle.chain.specs.Finds.{Nowhere}
use Rattle.chain.specs.Keep.{only}
use Rattle.chain.specs.Nth.{nth}
use Rattle.chain.specs.Found.{Found}
use Rattle.kinds.specs.Kinds.{listed}
use Rattle.kinds.specs.declared.Kind.{Kind}
use Rattle.kinds.specs.declared.Kind.TheVariants.{Tag, Signature}
use Rattle.kinds.specs.declared.Kinds.{Kinds}
use Rattle.octets.specs.Bytes.{byte}
use Rattle.promises.proofs.Exactly.{shown-at, item-place}
use Rattle.promises.proofs.Given.{view}
use Rattle.promises.specs.Answers.{answers}
use Rattle.promises.specs.Demand2.{EachIdentity, MapRecordAt, GpioRecordAt, Strings, Records}
use Rattle.promises.specs.Hidden.{has_pool}
use Rattle.promises.specs.Rows.{labelled, rows_at, known_rows}
use Rattle.reader.specs.Formats.{judged}
use Rattle.reader.specs.Values as reader
use Rattle.reader.specs.Values.{ItemValues, tiny_fields, board_fields}
use Rattle.reader.specs.declared.Format.{Format}
use Rattle.reader.specs.declared.Format.TheVariants.{Tiny, Board}
use Rattle.tiny.specs.Answers.{refused_with, serials, name_of}
use Rattle.tiny.specs.Items as tiny
use Rattle.tiny.specs.Items.{identity_at, batched_at, pool_shown, fields_at}
use Rattle.tiny.specs.Major.{MajorShown}
use Rattle.tiny.specs.Shown as tiny-shown
use Rattle.tiny.specs.Values as tiny-values
use Rattle.tiny.specs.Values.{FieldValues, field_values, name_said}
use Rattle.tiny.specs.declared.Item.{Item}
use Rattle.tiny.specs.AnswerTypes.{NameAnswer}
use Rattle.tiny.proofs.laws.Exactly.{no-name-exactly}
use Rattle.tiny.proofs.laws.Major as tiny-major
use Rattle.tiny.proofs.laws.Resolved.{string-text, string-beyond, name-is-text, name-too-long}
use Rattle.tiny.proofs.laws.Rows as tiny-rows
use Rattle.tiny.proofs.laws.Told.{pool-is}
use Rattle.tiny_layout.specs.Layout.{data_at, next, items}
use Rattle.tiny_layout.specs.Pool.{is_known, pool}
use Rattle.tiny_layout.specs.Strings.{texts}
use Rattle.tiny_layout.specs.Tags.{shape_of}
use Rattle.tiny_layout.specs.declared.Pool.{Pool}
use Rattle.tiny_layout.specs.declared.Shape as tiny-shape
use Rattle.tiny_rules.specs.Broken.{Broken11, major_out_of_range}
use Rattle.tiny_rules.specs.Rules.{is_major}
use Rattle.tiny_rules.proofs.laws.Table.{accepted-exactly}
use Rattle.verdict.specs.Said.{Said, says, refused}
use Rattle.verdict.specs.Answers.{Judged}

-- ---- the rows of an item
-- the fields of a tiny item under their labels, in the values of both formats
tiny-labelled : (x : FieldValues) → labelled (tiny_fields x) ≡ tiny-shown.labelled x
tiny-labelled (tiny-values.pool n p l) = refl
tiny-labelled (tiny-values.serial r) = refl
tiny-labelled (tiny-values.flags b) = refl
tiny-labelled (tiny-values.address l) = refl
tiny-labelled (tiny-values.identity x) = refl
tiny-labelled (tiny-values.batched x b) = refl
tiny-labelled tiny-values.not_known = refl

-- at a place
pub rows-at : (f : Format) (k : Kinds) (s : List ℕ) (p : ℕ) → labelled ((view f k s).item p).fields ≡ known_rows f k s p
unfolding tiny.item_at
rows-at Tiny k s p = go (is_known k s p) refl
  where
    go : (b : Bool) → is_known k s p ≡ b → labelled ((view Tiny k s).item p).fields ≡ cond b (rows_at Tiny k s p) []
    go true on = tiny-labelled (field_values s (tiny.item_at k s (pool k s) p).item) ∙ tiny-rows.known-rows k s p on
    go false off =
        ap (λ (b : Bool). labelled (tiny_fields (field_values s (cond b (fields_at s (pool k s) (shape_of (byte s p)) p) Item.NotKnown)))) off
rows-at Board k s p = go (knows k (shape_at s p)) refl
  where
    go : (b : Bool) → knows k (shape_at s p) ≡ b → labelled ((view Board k s).item p).fields ≡ cond b (rows_at Board k s p) []
    go true on = ap (λ x. labelled (board_fields x)) (board-rows.known-rows k s p on)
    go false off = ap (λ x. labelled (board_fields x)) (board-rows.unknown-rows k s p off)

pub fields-shown : (f : Format) (k : Kinds) (s : List ℕ) (n : ℕ) → judged f k s ≡ Ok n → (i : ℕ) (x : ItemValues) → (answers f k s).item i ≡ says x
    → labelled x.fields ≡ known_rows f k s x.place
fields-shown f k s n e i = shown-at f k s n e (λ x. labelled x.fields ≡ known_rows f k s x.place) i (λ p at. rows-at f k s p ∙ sym (ap (known_rows f k s) (item-place f k s p)))

-- ---- the pool's string count
abbrev tag_in : Kind → ℕ
tag_in (Tag tag) = tag
tag_in (Signature g) = g

module _ (k : Kinds) (s : List ℕ) (n : ℕ) (e : judged Tiny k s ≡ Ok n) where
  pub pool-count : has_pool k ≡ true → (i : ℕ) (x : ItemValues) → (answers Tiny k s).item i ≡ says x → x.kind ≡ Tag 0x01
      → x.fields ≡ reader.tiny-fields (tiny-values.pool (length (texts s (pool k s))) (data_at s x.place) x.length)
  unfolding tiny.item_at pool_shown shape_of next
  pool-count on i =
      shown-at Tiny k s n e
      (λ x. x.kind ≡ Tag 0x01 → x.fields ≡ reader.tiny-fields (tiny-values.pool (length (texts s (pool k s))) (data_at s x.place) x.length)) i
      (λ p at h.
      let tag : byte s p ≡ 0x01 = ap tag_in h in
      ap (λ (b : ℕ). tiny_fields (field_values s (cond (listed k (Tag b)) (fields_at s (pool k s) (shape_of b) p) Item.NotKnown))) tag
      ∙ ap (λ (b : Bool). tiny_fields (field_values s (cond b (fields_at s (pool k s) (shape_of 0x01) p) Item.NotKnown))) on
      ∙ ap₂ (λ (x : Pool) (m : ℕ). reader.tiny-fields (tiny-values.pool (length (texts s x)) (data_at s p) m)) (sym (pool-is k s n e i p at on tag)) (omega arith))

  -- ---- the major of an identity
  -- rule 11 keeps it in range
  major-kept : (i p : ℕ) → nth (items s) i ≡ Some p → is_known k s p ≡ true → (shape_of (byte s p) ≡ tiny-shape.Shape.Identity) ⊎ (shape_of (byte s p) ≡ tiny-shape.Shape.Batched)
      → is_major (byte s (data_at s p + 2)) ≡ true
  major-kept i p at on is = go (is_major (byte s (data_at s p + 2))) refl
    where
      kept : Nowhere (Broken11 k s)
      kept = ((accepted-exactly k s n).0 e).0.1.1.1.1.1.1.1.1.1.1.0

      go : (b : Bool) → is_major (byte s (data_at s p + 2)) ≡ b → b ≡ true
      go true d = refl
      go false d =
          absurd (kept (data_at s p + 2) (major_out_of_range p (elim is [ inl x ↦ inl (((i, at), on), x) | inr x ↦ inr (((i, at), on), x) ]) refl d))

  pub major-shown : (i : ℕ) (x : ItemValues) → (answers Tiny k s).item i ≡ says x → EachIdentity (λ v. MajorShown v.major v.letters) x.fields
  unfolding tiny.item_at identity_at batched_at
  major-shown i =
      shown-at Tiny k s n e (λ x. EachIdentity (λ v. MajorShown v.major v.letters) x.fields) i
      (λ p at. go p at (is_known k s p) refl (shape_of (byte s p)) refl)
    where
      go : (p : ℕ) → nth (items s) i ≡ Some p → (b : Bool) → is_known k s p ≡ b → (a : tiny-shape.Shape) → shape_of (byte s p) ≡ a
          → EachIdentity (λ v. MajorShown v.major v.letters) (tiny_fields (field_values s (cond b (fields_at s (pool k s) a p) Item.NotKnown)))
      go p at false off a d = tt
      go p at true on tiny-shape.Shape.Pool d = tt
      go p at true on tiny-shape.Shape.Serial d = tt
      go p at true on tiny-shape.Shape.Flags d = tt
      go p at true on tiny-shape.Shape.Address d = tt
      go p at true on tiny-shape.Shape.Identity d = tiny-major.major-shown (byte s (data_at s p + 2)) (major-kept i p at on (inl d))
      go p at true on tiny-shape.Shape.Batched d = tiny-major.major-shown (byte s (data_at s p + 2)) (major-kept i p at on (inr d))
      go p at true on tiny-shape.Shape.Other d = tt

  -- ---- strings, and the name
  pub strings-shown : has_pool k ≡ true → Strings k s (answers Tiny k s).further
  unfolding answers
  strings-shown on =
      record {
        string = string-text k s n e on;
        no_string = string-beyond k s n e on;
        name = λ p one b room. ap said (name-is-text k s n e p one on b room);
        too_short = λ p one b short. ap said (name-too-long k s n e p one on b short);
      }
    where
      said : NameAnswer × List ℕ → Said ℕ × List ℕ
      said a = (name_said a.0, a.1)

  pub no-name : (b : List ℕ) → (((answers Tiny k s).further.name b).0 ≡ refused 44 0) ↔ ((only (serials k s) ≡ None) ⊎ (has_pool k ≡ false))
  unfolding answers
  no-name b =
      let both = no-name-exactly k s n e b in (λ h. both.0 (back (name_of k s b).0 h), λ h. ap name_said (both.1 h))
    where
      back : (a : NameAnswer) → name_said a ≡ refused 44 0 → a ≡ Err (refused_with 44)
      back (Ok m) h = cc
      back (Err r) h =
          let number : r.number ≡ 44 = cc in
          let place : r.place ≡ 0 = cc in
          λ i. Err (record { number = number i; place = place i })

-- ---- records by number
module _ (k : Kinds) (s : List ℕ) (n : ℕ) (e : judged Board k s ≡ Ok n) where
  -- the second structure is the map
  pub second : nth (structures s) 1 ≡ Some (map_at s)
  unfolding nth
  second = ap (λ (l : List ℕ). nth l 1) (structures-are k s n e)

  pub map-by : (j : ℕ) → (answers Board k s).further.map_record j ≡ map_record_said (map_record s (nth (records Map s (map_at s)) j))
  unfolding answers map_record_numbered
  map-by j = ap (λ (x : Judged). map_record_said (map_record_if s j x)) e

  pub map-shown : (j r : ℕ) → MapRecordAt s j r → (answers Board k s).further.map_record j ≡ says (record_shown Map s r)
  map-shown j r w =
      let z : w.0 ≡ map_at s = let x : Some w.0 ≡ Some (map_at s) = sym w.1.0 ∙ second in cc in
      map-by j ∙ ap (λ (f : Found). map_record_said (map_record s f)) (ap (λ (m : ℕ). nth (records Map s m) j) (sym z) ∙ w.1.1)
      ∙ ap says (board-rows.map-record-rows s r)

  map-none : (j : ℕ) → ((r : ℕ) → MapRecordAt s j r → ⊥) → (answers Board k s).further.map_record j ≡ refused 42 0
  map-none j none = map-by j ∙ go (nth (records Map s (map_at s)) j) refl
    where
      go : (f : Found) → nth (records Map s (map_at s)) j ≡ f → map_record_said (map_record s f) ≡ refused 42 0
      go (Some r) d = absurd (none r (map_at s, (second, d)))
      go None d = refl

  -- GPIO data: by what the item is
  abbrev record_by : ℕ → ℕ → Bool → Found
  record_by p j b = cond b (nth (records Gpio s p) j) None

  gpio-by : (i j : ℕ) → (answers Board k s).further.gpio_record i j ≡ gpio_record_said (gpio_record s (gpio_records_at k s j (nth (structures s) i)))
  unfolding answers gpio_record_numbered
  gpio-by i j = ap (λ (x : Judged). gpio_record_said (gpio_record_if k s i j x)) e

  pub gpio-shown : (i j r : ℕ) → GpioRecordAt k s i j r → (answers Board k s).further.gpio_record i j ≡ says (record_shown Gpio s r)
  gpio-shown i j r w =
      let p : ℕ = w.0 in
      let on : is_gpio (shape_at s p) && knows k (shape_at s p) ≡ true =
      ap (λ (b : Bool). is_gpio (shape_at s p) && b) w.1.1 ∙ ap (λ (a : Shape). is_gpio a && true) w.1.2 in
      gpio-by i j ∙ ap (λ (f : Found). gpio_record_said (gpio_record s (gpio_records_at k s j f))) w.1.0
      ∙ ap (λ (b : Bool). gpio_record_said (gpio_record s (record_by p j b))) on ∙ ap (λ (f : Found). gpio_record_said (gpio_record s f)) w.1.3
      ∙ ap says (board-rows.gpio-record-rows s r)

  gpio-none : (i j : ℕ) → ((r : ℕ) → GpioRecordAt k s i j r → ⊥) → (answers Board k s).further.gpio_record i j ≡ refused 42 0
  gpio-none i j none = gpio-by i j ∙ go (nth (structures s) i) refl
    where
      found : (p : ℕ) → nth (structures s) i ≡ Some p → is_gpio (shape_at s p) ≡ true → knows k (shape_at s p) ≡ true → (f : Found) → nth (records Gpio s p) j ≡ f
          → gpio_record_said (gpio_record s f) ≡ refused 42 0
      found p at a b (Some r) d = absurd (none r (p, (at, b, gpio-shape (shape_at s p) a, d)))
      found p at a b None d = refl

      by : (p : ℕ) → nth (structures s) i ≡ Some p → (a b : Bool) → is_gpio (shape_at s p) ≡ a → knows k (shape_at s p) ≡ b
          → gpio_record_said (gpio_record s (record_by p j (a && b))) ≡ refused 42 0
      by p at true true a b = found p at a b (nth (records Gpio s p) j) refl
      by p at true false a b = refl
      by p at false b a c = refl

      go : (f : Found) → nth (structures s) i ≡ f → gpio_record_said (gpio_record s (gpio_records_at k s j f)) ≡ refused 42 0
      go (Some p) at = by p at (is_gpio (shape_at s p)) (knows k (shape_at s p)) refl refl
      go None at = refl

  pub records-shown : Records k s (answers Board k s).further
  records-shown = record { map = map-shown; no_map = map-none; gpio = gpio-shown; no_gpio = gpio-none }
