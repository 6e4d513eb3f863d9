-- What a reader answers about a board image tells each byte that an answer is about. Each byte lies in one structure, or between two; and there it is told by the
-- rows of its table, by those of a record, or it is zero by a rule. Assumes nothing.
use Rattle.std.specs.Prelude.{Some, Ok}
use Prim.Native.Nat.{ℕ, ◌+◌, ◌≤◌, ◌<◌}
use mathlib.Core.Bool.{Bool, true, false, false≢true}
use mathlib.Core.List.{List}
use mathlib.Core.Logic.{◌⊎◌, inl, inr}
use mathlib.Core.Path.{◌≡◌, refl, sym, ap, ◌∙◌}
use native.Mathlib.Omega.{arith}
use lib.Dec.{eqb}
use borrow.Author.Tests.{eqb-true, eqb-false}
use Rattle.board.specs.Answers.{is_gpio}
use Rattle.board.specs.Items.{item_at}
use Rattle.board.specs.NotShown.{NotShown, check, unknown, reserved, record_reserved, following, VersionUnknown}
use Rattle.board.specs.Shown.{record_shown}
use Rattle.board.specs.Values as board
use Rattle.board.proofs.laws.AlikeBytes.{gpio-shape, map-shape}
use Rattle.board.proofs.laws.Both as place
use Rattle.board.proofs.laws.Told.{SameShown, known-told, record-told}
use Rattle.board_layout.specs.Layout.{minor_at, shape_at, struct_len, end_at, next, structures, map_at, data_offset, record_size, records}
use Rattle.board_layout.specs.Places.{VerMajor, Length, head_size, StructLen}
use Rattle.board_layout.specs.Shapes.{shape_of, knows, reserved_from, reserved_to, HasRecords}
use Rattle.board_layout.specs.declared.Records.{Records}
use Rattle.board_layout.specs.declared.Records.TheVariants.{Map, Gpio}
use Rattle.board_layout.specs.declared.Shape.TheVariants.{Eeprom, EeprMap, GpioDat}
use Rattle.board_layout.proofs.laws.Tables.{reserved-row}
use Rattle.board_layout.proofs.laws.Layout.{next-grows, record-size}
use Rattle.board_records.specs.Records.{record_from, record_to}
use Rattle.board_rules.proofs.laws.Accepted.{header-is, structures-are, structures-fit}
use Rattle.board_rules.proofs.laws.Rows.{Placed, structures-placed}
use Rattle.board_rules.proofs.laws.Walk.{Fits}
use Rattle.chain.specs.Chain.{ahead}
use Rattle.chain.specs.Nth.{nth}
use Rattle.chain.proofs.laws.Below.{below}
use Rattle.chain.proofs.laws.Inside.{In, chain-covers}
use Rattle.chain.proofs.laws.Nth.{nth-all}
use Rattle.kinds.specs.declared.Kind.{Kind}
use Rattle.kinds.specs.declared.Kind.TheVariants.{Tag, Signature}
use Rattle.kinds.specs.declared.Kinds.{Kinds}
use Rattle.octets.specs.Bytes.{Octets, byte}
use Rattle.octets.proofs.laws.Same.{Same, le32-same}
use Rattle.promises.proofs.Fields.{second, map-shown, gpio-shown}
use Rattle.promises.proofs.Stand.{both-stand}
use Rattle.promises.specs.Answers.{answers}
use Rattle.promises.specs.Complete.{AgreeBut, SameFurther}
use Rattle.reader.specs.Formats.{judged}
use Rattle.reader.specs.Values as reader
use Rattle.reader.specs.Values.{FieldValues, ItemValues, board_fields}
use Rattle.reader.specs.declared.Format.TheVariants.{Board}

-- ---- an item's signature and fields, out of its values
abbrev signature_of : Kind → ℕ
signature_of (Tag tag) = tag
signature_of (Signature g) = g

abbrev fields_of : FieldValues → board.FieldValues
fields_of (reader.tiny-fields x) = board.not_known
fields_of (reader.board-fields x) = board.fields x
fields_of reader.not_known = board.not_known

fields-back : (x : board.FieldValues) → fields_of (board_fields x) ≡ x
fields-back (board.fields l) = refl
fields-back board.not_known = refl

-- ---- two images
module _ (k : Kinds) (s t : List ℕ) (good : Octets s) (fine : Octets t) (c d : ℕ) (e : judged Board k s ≡ Ok c) (g : judged Board k t ≡ Ok d) (items : (i : ℕ) → (answers Board k s).item i ≡ (answers Board k t).item i) (further : SameFurther Board (answers Board k s).further (answers Board k t).further) where
  -- ---- the same structures, and the same item at each
  record Both (i p : ℕ) : Type 0 where
    too : nth (structures t) i ≡ Some p
    item : SameShown k s t p

  both : (i p : ℕ) → nth (structures s) i ≡ Some p → Both i p
  unfolding item_at
  both i p at =
      let w = both-stand Board k s t c d e g items i p at in
      record {
        too = w.too;
        item = record {
          signature = ap (λ (y : ItemValues). signature_of y.kind) w.item;
          size = ap (λ (y : ItemValues). y.length) w.item;
          shown = sym (fields-back (board.item_fields (item_at k s p).item)) ∙ ap (λ (y : ItemValues). fields_of y.fields) w.item
              ∙ fields-back (board.item_fields (item_at k t p).item);
        };
      }

  -- StructLen is a field of the header
  header-stands : nth (structures s) 0 ≡ Some 0
  unfolding nth
  header-stands = ap (λ (l : List ℕ). nth l 0) (structures-are k s c e)

  header-shape : shape_at s 0 ≡ Eeprom
  unfolding shape_at shape_of
  header-shape = rw (header-is k s c e).0

  lens : struct_len s ≡ struct_len t
  lens = le32-same s t StructLen (StructLen + 4) same StructLen (omega arith) (omega arith)
    where
      same : Same s t StructLen (StructLen + 4)
      same q a b =
          let w : Both 0 0 = both 0 0 header-stands in
          elim (known-told k s t 0 w.item (ap (knows k) header-shape) good fine q (omega arith) (omega (arith, ap reserved_to header-shape))) [
            | inl x ↦ x
            | inr (inl x) ↦ absurd (omega (arith, x.0, ap reserved_from header-shape))
            | inr (inr x) ↦ absurd (omega (arith, x.1.0))
          ]

  -- ---- a byte of structure i, which starts at p
  module _ (i p : ℕ) (at : nth (structures s) i ≡ Some p) (q : ℕ) (h : q < struct_len s) (a : p ≤ q) (b : q < next s p) where
    too : nth (structures t) i ≡ Some p
    too = (both i p at).too

    item : SameShown k s t p
    item = (both i p at).item

    placed : Placed k s p
    placed = nth-all (Placed k s) (structures s) i p (structures-placed k s c e) at

    fits : Fits s p
    fits = nth-all (Fits s) (structures s) i p (structures-fit k s c e) at

    abbrev Told : Type 0
    Told = (byte s q ≡ byte t q) ⊎ (NotShown k s q ⊎ VersionUnknown k s q)

    module _ (on : knows k (shape_at s p) ≡ true) where
      -- VerMinor is 0, or above
      minor : (minor_at s p ≡ 0) ⊎ (0 < minor_at s p)
      minor = elim (below 0 (minor_at s p)) [ inl x ↦ inr x | inr x ↦ inl (omega arith) ]

      -- the row Reserved, where a byte of it lies within Length, lies there whole
      whole : p + reserved_from (shape_at s p) ≤ q → q < end_at s p → p + reserved_to (shape_at s p) ≤ end_at s p
      unfolding end_at
      whole x y = elim (placed.row on) [ inl z ↦ omega arith | inr z ↦ absurd (omega arith) ]

      -- a byte of its table within Length: told, reserved, or in Crc32
      row : q < p + reserved_to (shape_at s p) → q < end_at s p → Told
      row y v =
          elim (known-told k s t p item on good fine q a y) [
            | inl x ↦ inl x
            | inr (inl x) ↦ elim minor [
              | inl z ↦ inl (place.row-bytes k s t good fine c d e g i p at too item on z (whole x.0 v) q x.0 x.1)
              | inr z ↦ inr (inl (reserved (record { number = i; place = p; stands = at; property = ((on, z), whole x.0 v); past = x.0; before = x.1 })))
            ]
            | inr (inr x) ↦ let o : p ≡ 0 = placed.header x.0 in inr (inl (check (omega (arith, x.1.0), omega (arith, x.1.1))))
          ]

      -- a record, whose fields are told
      record-shown : (which : Records) → HasRecords which (shape_at s p) → q < end_at s p → (j r : ℕ) → nth (records which s p) j ≡ Some r
          → r ≤ q → q < r + record_to which → Same s t r (r + record_from which) → Told
      record-shown which has x j r stands y z same =
          elim (below q (r + record_from which)) [
            | inl w ↦ inl (same q y w)
            | inr w ↦ elim minor [
              | inl v ↦ inl (place.record-bytes k s t good fine c d e g i p at too item on which has v j r stands
                  (ap (λ (l : List ℕ). nth l j) (sym (place.record-places k s t good fine c d e g i p at too item which)) ∙ stands) q w z)
              | inr v ↦ inr (inl (record_reserved which (record {
                number = i;
                place = p;
                stands = at;
                property = ((on, v), has, record { number = j; place = r; stands = stands; property = tt; past = w; before = z });
                past = a;
                before = x;
              })))
            ]
          ]

      -- the record of the map, or of GPIO data, that the byte lies in
      record-at : (which : Records) → p + data_offset which ≤ q → q < end_at s p → In (ahead (record_size which)) (records which s p) q
      unfolding records
      record-at which x y = chain-covers (ahead (record_size which)) (end_at s p) (λ r. omega (arith, (record-size which).0)) (p + data_offset which) q x y

      map-byte : shape_at s p ≡ EeprMap → p + reserved_to (shape_at s p) ≤ q → q < end_at s p → Told
      map-byte is x y =
          let w = record-at Map (omega (arith, x, ap reserved_to is)) y in
          let shown : record_shown Map s w.place ≡ record_shown Map t w.place = told w.number w.place w.stands in
          record-shown Map is y w.number w.place w.stands w.past w.before (record-told Map s t good fine w.place shown)
        where
          placed-too : p ≡ map_at t
          placed-too =
              (nth-all (Placed k t) (structures t) i p (structures-placed k t d g) too).map
              (sym (place.shapes k s t good fine c d e g i p at too item on) ∙ is)

          told : (j r : ℕ) → nth (records Map s p) j ≡ Some r → record_shown Map s r ≡ record_shown Map t r
          told j r stands =
              let z = sym (map-shown k s c e j r (map_at s, (second k s c e, ap (λ (m : ℕ). nth (records Map s m) j) (sym (placed.map is)) ∙ stands))) ∙ further.0 j
              ∙ map-shown k t d g j r (
                map_at t,
                (
                  second k t d g,
                  ap (λ (m : ℕ). nth (records Map t m) j) (sym placed-too)
                      ∙ ap (λ (l : List ℕ). nth l j) (sym (place.record-places k s t good fine c d e g i p at too item Map)) ∙ stands,
                ),
              ) in
              cc

      gpio-byte : shape_at s p ≡ GpioDat → p + reserved_to (shape_at s p) ≤ q → q < end_at s p → Told
      gpio-byte is x y =
          let w = record-at Gpio (omega (arith, x, ap reserved_to is)) y in
          let shown : record_shown Gpio s w.place ≡ record_shown Gpio t w.place = told w.number w.place w.stands in
          record-shown Gpio is y w.number w.place w.stands w.past w.before (record-told Gpio s t good fine w.place shown)
        where
          told : (j r : ℕ) → nth (records Gpio s p) j ≡ Some r → record_shown Gpio s r ≡ record_shown Gpio t r
          told j r stands =
              let z = sym (gpio-shown k s c e i j r (p, (at, on, is, stands))) ∙ further.1 i j
              ∙ gpio-shown k t d g i j r (
                p,
                (
                  too,
                  place.known-here k s t good fine c d e g i p at too item on,
                  sym (place.shapes k s t good fine c d e g i p at too item on) ∙ is,
                  ap (λ (l : List ℕ). nth l j) (sym (place.record-places k s t good fine c d e g i p at too item Gpio)) ∙ stands,
                ),
              ) in
              cc

      -- what follows the fields
      after : p + reserved_to (shape_at s p) ≤ q → q < end_at s p → Told
      after x y = go (eqb p (map_at s)) refl (is_gpio (shape_at s p)) refl
        where
          map-here : eqb p (map_at s) ≡ true → shape_at s p ≡ EeprMap
          map-here u = ap (shape_at s) (eqb-true p (map_at s) u) ∙ map-shape k s c e

          none : eqb p (map_at s) ≡ false → is_gpio (shape_at s p) ≡ false → (which : Records) → HasRecords which (shape_at s p) → ⊥
          none u v Map has = eqb-false p (map_at s) u (placed.map has)
          none u v Gpio has = false≢true (sym v ∙ ap is_gpio has)

          go : (m : Bool) → eqb p (map_at s) ≡ m → (n : Bool) → is_gpio (shape_at s p) ≡ n → Told
          go true u n v = map-byte (map-here u) x y
          go false u true v = gpio-byte (gpio-shape (shape_at s p) v) x y
          go false u false v =
              inr (inl (following (record { number = i; place = p; stands = at; property = (on, none u v); past = x; before = y })))

      known-byte : q < end_at s p → Told
      known-byte y = elim (below q (p + reserved_to (shape_at s p))) [ inl w ↦ row w y | inr w ↦ after w y ]

    -- versions, and data, by whether it is known
    version : p + VerMajor ≤ q → q < p + Length → Told
    unfolding end_at
    version x y = go (knows k (shape_at s p)) refl
      where
        go : (m : Bool) → knows k (shape_at s p) ≡ m → Told
        go true on = row on (omega (arith, y, reserved-row (shape_at s p))) (omega (arith, y, fits.head))
        go false off = inr (inr (record { number = i; place = p; stands = at; property = off; past = x; before = y }))

    inside : p + head_size ≤ q → q < end_at s p → Told
    inside x y = go (knows k (shape_at s p)) refl
      where
        go : (m : Bool) → knows k (shape_at s p) ≡ m → Told
        go true on = known-byte on y
        go false off = inr (inl (unknown (record { number = i; place = p; stands = at; property = off; past = x; before = y })))

    told : Told
    told =
        elim (below q (p + VerMajor)) [
          | inl x ↦ inl (place.signature-bytes k s t good fine c d e g i p at too item q a x)
          | inr x ↦ elim (below q (p + Length)) [
            | inl y ↦ version x y
            | inr y ↦ elim (below q (p + head_size)) [
              | inl z ↦ inl (place.length-bytes k s t good fine c d e g i p at too item q y z)
              | inr z ↦ elim (below q (end_at s p)) [
                | inl w ↦ inside z w
                | inr w ↦ inl (place.gap-bytes k s t good fine c d e g i p at too item lens q h w b)
              ]
            ]
          ]
        ]

  -- ---- each byte lies in a structure, or between it and the next
  pub board-told : AgreeBut Board (λ q. NotShown k s q ⊎ VersionUnknown k s q) s t
  board-told =
      record {
        length = lens;
        bytes = λ q h.
            let w : In (next s) (structures s) q = chain-covers (next s) (struct_len s) (next-grows s) 0 q (omega arith) h in
            told w.number w.place w.stands q h w.past w.before;
      }
