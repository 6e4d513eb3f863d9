-- What a reader shows of an item tells its bytes: of every structure Signature and Length; of a known one every byte of its table, and of a record every byte of
-- its own, but the hidden rows. The converse of laws/Shown. The rows are those of the tables, so no table is looked at here. Assumes nothing.
use Rattle.std.specs.Prelude.{ℕ, ◌+◌, ◌-◌, ◌≤◌, ◌<◌, Bool, cond, List, [], ◌∷◌, ◌⊎◌, ◌≡◌, None}
use Rattle.std.proofs.Math.Bool.{true, false}
use Rattle.std.proofs.Common.{inl, inr, sym, ◌∙◌, arith}
use Rattle.std.proofs.Math.Path.{refl, ap, ap₂}
use Rattle.board_layout.specs.Layout.{signature_at, major_at, minor_at, length_at, shape_at, record_size}
use Rattle.board_layout.specs.Places.{head_size, Crc32}
use Rattle.board_layout.specs.Shapes.{shape_of, knows, reserved_from, reserved_to}
use Rattle.board_layout.specs.Tables.{table, record_table}
use Rattle.board_layout.specs.declared.Records.{Records}
use Rattle.board_layout.specs.declared.Records.TheVariants.{Map, Gpio}
use Rattle.board_layout.specs.declared.Shape.TheVariants.{Eeprom}
use Rattle.board_layout.proofs.laws.Tables.{gapless, hidden}
use Rattle.board_records.specs.Records.{record_from, record_to}
use Rattle.board.specs.Items.{item_as, item_at}
use Rattle.board.specs.Shown.{structure_shown, record_shown}
use Rattle.board.specs.Values.{FieldValues, fields, not_known, item_fields}
use Rattle.board.proofs.laws.Rows.{shown-unknown, known-rows}
use Rattle.kinds.specs.declared.Kinds.{Kinds}
use Rattle.octets.specs.Bytes.{Octets, byte, le16}
use Rattle.octets.specs.Rows.{Field, number, InRow, HiddenIn, Gapless}
use Rattle.octets.proofs.laws.Rows.{number_in, rows-told}
use Rattle.octets.proofs.laws.Told.{le64-told}

-- ---- what is shown, taken apart
-- the fields that are shown
abbrev list_in : FieldValues → List Field
list_in (fields l) = l
list_in not_known = []

-- the numbers of the first two: VerMajor and VerMinor
abbrev first_in : List Field → ℕ
first_in [] = 0
first_in (f ∷ fs) = number_in f.1

abbrev second_in : List Field → ℕ
second_in [] = 0
second_in (f ∷ fs) = first_in fs

-- ---- two images that show the same at p
pub record SameShown (k : Kinds) (s t : List ℕ) (p : ℕ) : Type 0 where
  pub signature : signature_at s p ≡ signature_at t p
  pub size : length_at s p - head_size ≡ length_at t p - head_size
  pub shown : item_fields (item_at k s p).item ≡ item_fields (item_at k t p).item

module _ (k : Kinds) (s t : List ℕ) (p : ℕ) (same : SameShown k s t p) where
  pub length-told : 16 ≤ length_at s p → 16 ≤ length_at t p → length_at s p ≡ length_at t p
  length-told h l = omega (arith, same.size)

  -- of a known one also its versions, so that both have one table
  module _ (on : knows k (shape_at s p) ≡ true) where
    pub known-too : knows k (shape_at t p) ≡ true
    unfolding item_at
    known-too = go (knows k (shape_at t p)) refl
      where
        go : (b : Bool) → knows k (shape_at t p) ≡ b → b ≡ true
        go true h = refl
        go false h =
            absurd (shown-unknown (structure_shown s p (shape_at s p))
            (sym (known-rows k s p on) ∙ same.shown ∙ ap (λ (b : Bool). item_fields (cond b (item_as t p (shape_at t p)) None)) h))

    both-rows : structure_shown s p (shape_at s p) ≡ structure_shown t p (shape_at t p)
    both-rows = ap list_in (sym (known-rows k s p on) ∙ same.shown ∙ known-rows k t p known-too)

    major-told : major_at s p ≡ major_at t p
    unfolding le16
    major-told = ap first_in both-rows

    pub minor-told : minor_at s p ≡ minor_at t p
    unfolding le16
    minor-told = ap second_in both-rows

    pub shape-told : shape_at s p ≡ shape_at t p
    unfolding shape_at
    shape-told = ap₂ shape_of same.signature major-told

    -- and every byte of its table: it agrees, or it lies in the row Reserved, or in Crc32
    pub known-told : Octets s → Octets t → (q : ℕ) → p ≤ q → q < p + reserved_to (shape_at s p)
        → (byte s q ≡ byte t q)
        ⊎ (((p + reserved_from (shape_at s p) ≤ q) × (q < p + reserved_to (shape_at s p))) ⊎ ((shape_at s p ≡ Eeprom) × InRow p Crc32 4 q))
    known-told good fine q a b =
        elim (rows-told number number s t good fine p (length_at s p) (length_at t p) q 0 (reserved_to (shape_at s p)) (table (shape_at s p)) (gapless (shape_at s p))
        (both-rows ∙ ap (structure_shown t p) (sym shape-told)) (omega arith) b) [
          | inl x ↦ inl x
          | inr x ↦ elim (hidden p q (shape_at s p) x) [ inl y ↦ inl (le64-told s t p good fine same.signature q a y) | inr y ↦ inr y ]
        ]

-- ---- a record: every byte of its table agrees, or lies in the row Reserved
record-gapless : (which : Records) → Gapless 0 (record_to which) (record_table which)
record-gapless Map = (refl, (refl, (refl, (refl, (refl, refl)))))
record-gapless Gpio = (refl, (refl, (refl, (refl, (refl, (refl, (refl, (refl, refl))))))))

record-hidden : (which : Records) (r q : ℕ) → HiddenIn r q (record_table which) → r + record_from which ≤ q
record-hidden Map r q (inl h) = h.0
record-hidden Map r q (inr h) = absurd h
record-hidden Gpio r q (inl h) = h.0
record-hidden Gpio r q (inr h) = absurd h

pub record-told : (which : Records) (s t : List ℕ) → Octets s → Octets t → (r : ℕ)
    → record_shown which s r ≡ record_shown which t r
    → (q : ℕ) → r ≤ q → q < r + record_from which → byte s q ≡ byte t q
record-told which s t good fine r e q a b =
    elim (rows-told number number s t good fine r (record_size which) (record_size which) q 0 (record_to which) (record_table which) (record-gapless which) e (omega arith) (omega (arith, b, ends which))) [
      | inl x ↦ x
      | inr x ↦ absurd (omega (arith, b, record-hidden which r q x))
    ]
  where
    ends : (which : Records) → record_from which ≤ record_to which
    ends Map = omega arith
    ends Gpio = omega arith
