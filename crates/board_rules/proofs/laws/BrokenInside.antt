-- Rule 33 at one structure: what is found is the smallest place where its table is not kept. The start comes first, and then the field or the records.
-- Assumes nothing.
use Prim.Native.Nat.{ℕ, ◌+◌, ◌-◌, ◌*◌, ◌/◌, ◌%◌, ◌≤◌, ◌<◌}
use Rattle.std.specs.Prelude.{Bool, not, cond, List, [], ◌∷◌, ◌⊎◌, ◌≡◌, eqb, Some}
use Rattle.std.proofs.Math.Bool.{true, false}
use Rattle.std.proofs.Math.Logic.{inl, inr}
use Rattle.std.proofs.Math.Path.{refl}
use native.Mathlib.Omega.{arith}
use Rattle.std.proofs.Math.Dec.{ltb}
use borrow.Author.Tests.{eqb-true, eqb-false, ltb-true, ltb-false}
use Rattle.board_fields.specs.Inside.{bad_gpio, bad_fpga, bad_fields, bad_inside}
use Rattle.board_layout.specs.Layout.{length_at, end_at, records}
use Rattle.board_layout.specs.Places.{FpgaDataType, GpioData, GpioLabel, GpioLength, DataSize, GpioDataType, gpio_record_size}
use Rattle.board_layout.specs.Shapes.{fixed_part}
use Rattle.board_layout.specs.declared.Records.TheVariants.{Gpio}
use Rattle.board_layout.specs.declared.Shape.{Shape}
use Rattle.board_layout.specs.declared.Shape.TheVariants.{EeprMap, FpgaNfo, GpioDat}
use Rattle.board_layout.proofs.laws.Records.{records-fit}
use Rattle.board_records.specs.Records.{data_size_fits, bad_gpio_record}
use Rattle.board_rules.proofs.laws.BrokenRecords.{record-after, InRecord, finds-records}
use Rattle.board_rules.proofs.laws.BrokenTables.{TableOf, no, table-of, map, fpga, gpio, others}
use Rattle.chain.specs.Finds.{Among, Finds, Nowhere}
use Rattle.chain.specs.First.{first, or_else, when}
use Rattle.chain.proofs.laws.Clauses.{Clause, test, over, other, several}
use Rattle.chain.proofs.laws.Finds.{finds-as}
use Rattle.chain.proofs.laws.Means.{Means, means-equal, means-not, means-either}
use Rattle.chain.proofs.laws.Nth.{nth-all}
use Rattle.octets.specs.Bytes.{byte, le32}
use Rattle.octets.proofs.laws.LabelBad.{of_label}

-- a DataSize that is not 1, 2 or 4
abbrev pub OtherSize : ℕ → Type 0
OtherSize n = (n ≡ 1 → ⊥) × (n ≡ 2 → ⊥) × (n ≡ 4 → ⊥)

pub means-other-size : (n : ℕ) → Means (not (data_size_fits n)) (OtherSize n)
means-other-size n = (
  λ e. (λ h. m.0 e (inl (inl h)), λ h. m.0 e (inl (inr h)), λ h. m.0 e (inr h)),
  λ h. m.1 (λ x. elim x [ inl y ↦ elim y [ inl d ↦ h.0 d | inr d ↦ h.1 d ] | inr d ↦ h.2 d ]),
)
  where
    m : Means (not (data_size_fits n)) (((n ≡ 1) ⊎ (n ≡ 2)) ⊎ (n ≡ 4) → ⊥)
    m = means-not (means-either (means-either (means-equal n 1) (means-equal n 2)) (means-equal n 4))

module _ (s : List ℕ) where
  -- the clauses of a GPIO record, in ascending order of place
  abbrev pub gpio_record : ℕ → Clause
  gpio_record r =
      several
      (of_label s (r + GpioLabel)
      ∷ other (le32 s) gpio_record_size (r + GpioLength)
      ∷ test (λ z. OtherSize (byte s z)) (r + DataSize) (means-other-size (byte s (r + DataSize)))
      ∷ over (byte s) 4 (r + GpioDataType)
      ∷ [])
      r (r + GpioDataType) (omega arith, (omega arith, (omega arith, (omega arith, omega arith))))

  -- one that is whole
  abbrev pub WholeRecord : ℕ → ℕ → ℕ → Type 0
  WholeRecord p r z = (r + gpio_record_size ≤ end_at s p) × (gpio_record r).broken z

  finds-gpio-record : (p r : ℕ) → r + gpio_record_size ≤ end_at s p → Finds (WholeRecord p r) (bad_gpio_record s r)
  unfolding bad_gpio_record
  finds-gpio-record p r h =
      finds-as (gpio_record r).broken (WholeRecord p r) (λ z b. (h, b)) (λ z b. b.1) (bad_gpio_record s r) (gpio_record r).finds

  -- the length of GPIO data is not that of whole records
  abbrev pub Cut : ℕ → Type 0
  Cut p = (n : ℕ) → length_at s p ≡ GpioData + gpio_record_size * n → ⊥

  -- GPIO data that are cut, and then the records
  abbrev pub GpioAt : ℕ → ℕ → Type 0
  GpioAt p z = ((z ≡ p) × Cut p) ⊎ InRecord Gpio s p (WholeRecord p) z

  finds-gpio : (p : ℕ) → GpioData ≤ length_at s p → Finds (GpioAt p) (bad_gpio s p)
  unfolding bad_gpio
  finds-gpio p h = go (eqb rest 0) refl
    where
      rest : ℕ
      rest = (length_at s p - GpioData) % gpio_record_size

      whole : rest ≡ 0 → (r : ℕ) → Among (records Gpio s p) r → r + gpio_record_size ≤ end_at s p
      whole e r a =
          (nth-all (λ q. (p + GpioData ≤ q) × (q + gpio_record_size ≤ end_at s p)) (records Gpio s p) a.0 r (records-fit Gpio s p h e) a.1).1

      go : (b : Bool) → eqb rest 0 ≡ b → Finds (GpioAt p) (or_else (when (not b) p) (first (bad_gpio_record s) (records Gpio s p)))
      go true e =
          let d : rest ≡ 0 = eqb-true rest 0 e in
          finds-as (InRecord Gpio s p (WholeRecord p)) (GpioAt p) (λ z x. inr x)
          (λ z x. elim x [ inl y ↦ absurd (y.1 ((length_at s p - GpioData) / gpio_record_size) (omega arith)) | inr y ↦ y ])
          (first (bad_gpio_record s) (records Gpio s p))
          (finds-records Gpio s p (bad_gpio_record s) (WholeRecord p)
          (λ r z b. let w = (gpio_record r).within z b.1 in (w.0, omega (arith, w.1))) (λ r a. finds-gpio-record p r (whole d r a)))
      go false e = (
        inl (refl, λ n d. eqb-false rest 0 e (omega arith)),
        λ q x.
            elim x [
              | inl y ↦ omega (arith, y.0)
              | inr y ↦ omega (arith, record-after Gpio s p y.0 y.1.0, ((gpio_record y.0).within q y.1.1.1).0)
            ],
      )

  -- the fields of a structure that has its fixed part, by its table
  abbrev pub FieldAt : ℕ → Shape → ℕ → Type 0
  FieldAt p a z = ((a ≡ FpgaNfo) × (z ≡ p + FpgaDataType) × (4 < byte s z)) ⊎ ((a ≡ GpioDat) × GpioAt p z)

  -- a table without such fields
  no-fields : (p : ℕ) (a : Shape) → (a ≡ FpgaNfo → ⊥) → (a ≡ GpioDat → ⊥) → Nowhere (FieldAt p a)
  no-fields p a f g z x = elim x [ inl y ↦ f y.0 | inr y ↦ g y.0 ]

  finds-fields : (p : ℕ) {a : Shape} → TableOf a → fixed_part a ≤ length_at s p → Finds (FieldAt p a) (bad_fields s p a)
  unfolding bad_fpga
  finds-fields p map h = no-fields p EeprMap (λ e. no (cc)) (λ e. no (cc))
  finds-fields p fpga h =
      let c : Clause = over (byte s) 4 (p + FpgaDataType) in
      finds-as c.broken (FieldAt p FpgaNfo) (λ z x. inl (refl, x.0, x.1))
      (λ z x. elim x [ inl y ↦ (y.1, y.2) | inr y ↦ absurd (no (cc y.0)) ]) (bad_fpga s p) c.finds
  finds-fields p gpio h =
      finds-as (GpioAt p) (FieldAt p GpioDat) (λ z x. inr (refl, x)) (λ z x. elim x [ inl y ↦ absurd (no (cc y.0)) | inr y ↦ y.1 ]) (bad_gpio s p)
      (finds-gpio p h)
  finds-fields p (others a none apart) h = rw (none s p).1 (no-fields p a apart.1 apart.2)

  -- a structure under its fixed part, or else its fields
  abbrev pub InsideAt : ℕ → Shape → ℕ → Type 0
  InsideAt p a z = ((z ≡ p) × (length_at s p < fixed_part a)) ⊎ ((fixed_part a ≤ length_at s p) × FieldAt p a z)

  pub finds-inside : (p : ℕ) (a : Shape) → Finds (InsideAt p a) (bad_inside s p a)
  unfolding bad_inside
  finds-inside p a = go (ltb (length_at s p) (fixed_part a)) refl
    where
      go : (b : Bool) → ltb (length_at s p) (fixed_part a) ≡ b → Finds (InsideAt p a) (cond b (Some p) (bad_fields s p a))
      go true e =
          let h : length_at s p < fixed_part a = ltb-true (length_at s p) (fixed_part a) e in
          (inl (refl, h), λ q x. elim x [ inl y ↦ omega (arith, y.0) | inr y ↦ absurd (omega (arith, h, y.0)) ])
      go false e =
          let h : fixed_part a ≤ length_at s p = ltb-false (length_at s p) (fixed_part a) e in
          finds-as (FieldAt p a) (InsideAt p a) (λ z x. inr (h, x)) (λ z x. elim x [ inl y ↦ absurd (omega (arith, h, y.1)) | inr y ↦ y.1 ]) (bad_fields s p a)
          (finds-fields p (table-of a) h)

  pub inside-own : (p z : ℕ) (a : Shape) → InsideAt p a z → (p ≤ z) × (z ≤ end_at s p)
  unfolding end_at
  inside-own p z a (inl x) = (omega (arith, x.0), omega (arith, x.0))
  inside-own p z a (inr (h, inl (shape, at, value))) =
      let l : fixed_part FpgaNfo ≤ length_at s p = rw shape at h in (omega arith, omega arith)
  inside-own p z a (inr (h, inr (shape, inl (start, cut)))) = (omega arith, omega arith)
  inside-own p z a (inr (h, inr (shape, inr (r, (among, (whole, broken)))))) =
      let w = (gpio_record r).within z broken in (omega (arith, record-after Gpio s p r among, w.0), omega (arith, w.1))
