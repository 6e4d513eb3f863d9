-- Rule 32 at one structure: the byte found is the smallest reserved one that is not zero. The structure's own field lies before its records. Assumes nothing.
use Prim.Native.Nat.{ℕ, ◌+◌, ◌≤◌, ◌<◌}
use Rattle.std.specs.Prelude.{List, ◌⊎◌, ◌≡◌, refl, eqb, leb}
use Rattle.std.proofs.Common.{inl, inr, subst, arith}
use borrow.Author.Tests.{eqb-true, eq-eqb, leb-true, le-leb}
use Rattle.board_fields.specs.Reserved.{records_used, reserved_used}
use Rattle.board_layout.specs.Layout.{minor_at, end_at, data_offset, record_size, records}
use Rattle.board_layout.specs.Shapes.{reserved_from, reserved_to, HasRecords}
use Rattle.board_layout.specs.declared.Records.{Records}
use Rattle.board_layout.specs.declared.Records.TheVariants.{Map, Gpio}
use Rattle.board_layout.specs.declared.Shape.{Shape}
use Rattle.board_layout.specs.declared.Shape.TheVariants.{EeprMap, FpgaNfo, GpioDat}
use Rattle.board_records.specs.Records.{field_used, record_from, record_to, record_used}
use Rattle.board_rules.proofs.laws.BrokenRecords.{record-after, InRecord, finds-records}
use Rattle.board_rules.proofs.laws.BrokenTables.{TableOf, no, table-of, map, fpga, gpio, others}
use Rattle.chain.specs.Finds.{Finds, Nowhere}
use Rattle.chain.specs.First.{first, or_else}
use Rattle.chain.specs.Found.{Found}
use Rattle.chain.proofs.laws.Finds.{finds-as, finds-under, finds-both}
use Rattle.octets.specs.Bytes.{byte}
use Rattle.octets.specs.Runs.{nonzero}
use Rattle.octets.proofs.laws.Runs.{finds-nonzero}

-- a table has records of one kind
one-kind : (a : Shape) (w v : Records) → HasRecords w a → HasRecords v a → v ≡ w
one-kind a Map Map h g = refl
one-kind a Map Gpio h g = absurd (no (cc))
one-kind a Gpio Map h g = absurd (no (cc))
one-kind a Gpio Gpio h g = refl

-- they follow the reserved field
reserved-before : (w : Records) (a : Shape) → HasRecords w a → reserved_to a ≤ data_offset w
reserved-before Map a h = rw h (omega arith)
reserved-before Gpio a h = rw h (omega arith)

-- a record's reserved field is its last
reserved-last : (w : Records) → record_to w ≡ record_size w
reserved-last Map = refl
reserved-last Gpio = refl

module _ (s : List ℕ) where
  -- z is a byte of a field, from one offset up to another of what starts at p, and not zero; and the field ends by `end`
  abbrev pub Used : ℕ → ℕ → ℕ → ℕ → ℕ → Type 0
  Used from to end p z = (p + to ≤ end) × (p + from ≤ z) × (z < p + to) × (byte s z ≡ 0 → ⊥)

  finds-used : (from to end p : ℕ) → Finds (Used from to end p) (field_used s from to end p)
  finds-used from to end p =
      finds-under (Used from to end p) (leb (p + to) end) (nonzero s p from to)
      (λ e.
      finds-as (λ z. (p + from ≤ z) × (z < p + to) × (byte s z ≡ 0 → ⊥)) (Used from to end p) (λ z h. (leb-true (p + to) end e, h.0, h.1, h.2))
      (λ z u. (u.1, u.2, u.3)) (nonzero s p from to) (finds-nonzero s p from to))
      (λ z u. le-leb (p + to) end u.0)

  -- a reserved byte of a record
  abbrev pub UsedRecord : ℕ → Records → ℕ → Type 0
  UsedRecord p w = InRecord w s p (Used (record_from w) (record_to w) (end_at s p))

  -- by the structure's table
  abbrev pub UsedRecords : ℕ → Shape → ℕ → Type 0
  UsedRecords p a z = (w : Records) × (HasRecords w a × UsedRecord p w z)

  finds-kind : (w : Records) (p : ℕ) (a : Shape) → HasRecords w a → Finds (UsedRecords p a) (first (record_used w s p) (records w s p))
  finds-kind w p a h =
      finds-as (UsedRecord p w) (UsedRecords p a) (λ z x. (w, (h, x)))
      (λ z x. subst (λ (v : Records). UsedRecord p v z) (one-kind a w x.0 h x.1.0) x.1.1) (first (record_used w s p) (records w s p))
      (finds-records w s p (record_used w s p) (Used (record_from w) (record_to w) (end_at s p))
      (λ r z u. (omega (arith, u.1), omega (arith, u.2, reserved-last w))) (λ r a. finds-used (record_from w) (record_to w) (end_at s p) r))

  -- a table that has no records
  no-records : (p : ℕ) (a : Shape) → (a ≡ EeprMap → ⊥) → (a ≡ GpioDat → ⊥) → Nowhere (UsedRecords p a)
  no-records p a m g z x = go x.0 x.1.0
    where
      go : (w : Records) → HasRecords w a → ⊥
      go Map h = m h
      go Gpio h = g h

  finds-used-records : (p : ℕ) {a : Shape} → TableOf a → Finds (UsedRecords p a) (records_used s p a)
  finds-used-records p map = finds-kind Map p EeprMap refl
  finds-used-records p fpga = no-records p FpgaNfo (λ e. no (cc)) (λ e. no (cc))
  finds-used-records p gpio = finds-kind Gpio p GpioDat refl
  finds-used-records p (others a none apart) = rw (none s p).0 (no-records p a apart.0 apart.2)

  -- the structure's own reserved field, and then its records'
  abbrev pub ReservedAt : ℕ → Shape → ℕ → Type 0
  ReservedAt p a z = (minor_at s p ≡ 0) × (Used (reserved_from a) (reserved_to a) (end_at s p) p z ⊎ UsedRecords p a z)

  pub finds-reserved : (p : ℕ) (a : Shape) → Finds (ReservedAt p a) (reserved_used s p a)
  unfolding reserved_used
  finds-reserved p a =
      finds-under (ReservedAt p a) (eqb (minor_at s p) 0) found
      (λ e.
      finds-as (λ z. Own z ⊎ UsedRecords p a z) (ReservedAt p a) (λ z x. (eqb-true (minor_at s p) 0 e, x)) (λ z x. x.1) found
      (finds-both Own (UsedRecords p a) (field_used s (reserved_from a) (reserved_to a) (end_at s p) p) (records_used s p a)
      (finds-used (reserved_from a) (reserved_to a) (end_at s p) p) (finds-used-records p (table-of a)) order))
      (λ z x. eq-eqb (minor_at s p) 0 x.0)
    where
      Own : ℕ → Type 0
      Own = Used (reserved_from a) (reserved_to a) (end_at s p) p

      found : Found
      found = or_else (field_used s (reserved_from a) (reserved_to a) (end_at s p) p) (records_used s p a)

      order : (y z : ℕ) → Own y → UsedRecords p a z → y ≤ z
      order y z u (w, (has, (r, (among, (ends, from, upto, set))))) =
          omega (arith, u.2, reserved-before w a has, record-after w s p r among)

  pub reserved-own : (p z : ℕ) (a : Shape) → ReservedAt p a z → (p ≤ z) × (z ≤ end_at s p)
  reserved-own p z a (minor, inl (ends, from, upto, set)) = (omega arith, omega arith)
  reserved-own p z a (minor, inr (w, (has, (r, (among, (ends, from, upto, set)))))) =
      (omega (arith, record-after w s p r among), omega arith)
