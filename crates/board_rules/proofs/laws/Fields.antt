-- What acceptance gives of fields, rules 30, 32 and 33: the map's fields and records are good, and in no known structure a reserved
-- byte or a field is bad. Assumes nothing.
use Rattle.std.specs.Prelude.{ℕ, ◌+◌, ◌*◌, ◌≤◌, ◌<◌, true, not, List, [], ◌∷◌, ◌≡◌, eqb, ltb, None, Ok}
use Rattle.std.proofs.Common.{ap, ◌∙◌, arith}
use Rattle.std.proofs.lemmas.Bool.{eqb-false}
use Rattle.board_fields.specs.Inside.{bad_inside}
use Rattle.board_fields.specs.Map.{bad_map_field, bad_map}
use Rattle.board_fields.specs.Reserved.{reserved_used}
use Rattle.board_layout.specs.Layout.{shape_at, struct_len, structures, map_at, records, map_count}
use Rattle.board_layout.specs.Places.{PartLabel, BlkLength, PartSize, Master, Speed, MapData, MapLabel, MapLength, MapOffset, Address, map_record_size}
use Rattle.board_layout.specs.Shapes.{knows}
use Rattle.board_layout.specs.declared.Records.TheVariants.{Map}
use Rattle.board_layout.specs.declared.Shape.{Shape}
use Rattle.board_records.specs.Records.{map_number, bad_map_record}
use Rattle.board_rules.specs.Judged.{judged}
use Rattle.board_rules.specs.Rules.{rule30, on_known, rule32, rule33}
use Rattle.board_rules.proofs.laws.Accepted.{accepted-clear, record-place}
use Rattle.chain.specs.All.{All}
use Rattle.chain.specs.First.{first, when}
use Rattle.chain.specs.Found.{Found}
use Rattle.chain.proofs.laws.All.{all-map}
use Rattle.chain.proofs.laws.Checks.{checks-none, kept-equal, kept-under, under-mark}
use Rattle.chain.proofs.laws.First.{first-all, or_else-left, or_else-right, when-nothing}
use Rattle.chain.proofs.laws.Nth.{nth-all}
use Rattle.kinds.specs.declared.Kinds.{Kinds}
use Rattle.octets.specs.Bytes.{byte, le32}
use Rattle.octets.specs.Label.{bad_label}

-- a rule on the known structures that finds nothing is not broken by any known structure
known-clear : (k : Kinds) (s : List ℕ) (rule : ℕ → Shape → Found) → first (on_known k s rule) (structures s) ≡ None
    → All (λ p. knows k (shape_at s p) ≡ true → rule p (shape_at s p) ≡ None) (structures s)
known-clear k s rule e =
    all-map (λ p. on_known k s rule p ≡ None) (λ p. knows k (shape_at s p) ≡ true → rule p (shape_at s p) ≡ None)
    (λ p c h. under-mark (knows k (shape_at s p)) (rule p (shape_at s p)) c h) (structures s) (first-all (on_known k s rule) (structures s) e)

-- what rule 30 says of the record at r of the map at m
pub record GoodMapRecord (s : List ℕ) (m r : ℕ) : Type 0 where
  pub label : bad_label s (r + MapLabel) ≡ None
  pub size : le32 s (r + MapLength) ≡ map_record_size
  pub offset : le32 s (r + MapOffset) ≡ map_number m r * le32 s (m + BlkLength)
  pub address : byte s (r + Address) ≤ 0x7F

-- a record that does not break it is good
good-record : (s : List ℕ) (m r : ℕ) → bad_map_record s m r ≡ None → GoodMapRecord s m r
unfolding bad_map_record
good-record s m r e =
    let t = checks-none
    (bad_label s (r + MapLabel)
    ∷ when (not (eqb (le32 s (r + MapLength)) map_record_size)) (r + MapLength)
    ∷ when (not (eqb (le32 s (r + MapOffset)) (map_number m r * le32 s (m + BlkLength)))) (r + MapOffset)
    ∷ when (ltb 0x7F (byte s (r + Address))) (r + Address)
    ∷ [])
    e in
    record {
      label = t.0;
      size = kept-equal (le32 s (r + MapLength)) map_record_size (r + MapLength) t.1.0;
      offset = kept-equal (le32 s (r + MapOffset)) (map_number m r * le32 s (m + BlkLength)) (r + MapOffset) t.1.1.0;
      address = kept-under 0x7F (byte s (r + Address)) (r + Address) t.1.1.1.0;
    }

-- and of the fields of the map at m
pub record GoodMapFields (s : List ℕ) (m : ℕ) : Type 0 where
  pub label : bad_label s (m + PartLabel) ≡ None
  pub block : 0 < le32 s (m + BlkLength)
  pub part : le32 s (m + PartSize) ≡ map_count s m * le32 s (m + BlkLength)
  pub holds : struct_len s ≤ le32 s (m + PartSize)
  pub master : byte s (m + Master) ≤ 1
  pub speed : byte s (m + Speed) ≤ 3

-- so are fields that do not break it
good-fields : (s : List ℕ) (m : ℕ) → bad_map_field s m ≡ None → GoodMapFields s m
unfolding bad_map_field
good-fields s m e =
    let t = checks-none
    (bad_label s (m + PartLabel)
    ∷ when (eqb (le32 s (m + BlkLength)) 0) (m + BlkLength)
    ∷ when (not (eqb (le32 s (m + PartSize)) (map_count s m * le32 s (m + BlkLength)))) (m + PartSize)
    ∷ when (ltb (le32 s (m + PartSize)) (struct_len s)) (m + PartSize)
    ∷ when (ltb 1 (byte s (m + Master))) (m + Master)
    ∷ when (ltb 3 (byte s (m + Speed))) (m + Speed)
    ∷ [])
    e in
    record {
      label = t.0;
      block = omega (arith, eqb-false (le32 s (m + BlkLength)) 0 (when-nothing (eqb (le32 s (m + BlkLength)) 0) (m + BlkLength) t.1.0));
      part = kept-equal (le32 s (m + PartSize)) (map_count s m * le32 s (m + BlkLength)) (m + PartSize) t.1.1.0;
      holds = kept-under (le32 s (m + PartSize)) (struct_len s) (m + PartSize) t.1.1.1.0;
      master = kept-under 1 (byte s (m + Master)) (m + Master) t.1.1.1.1.0;
      speed = kept-under 3 (byte s (m + Speed)) (m + Speed) t.1.1.1.1.1.0;
    }

module _ (k : Kinds) (s : List ℕ) (n : ℕ) (e : judged k s ≡ Ok n) where
  -- rule 30 is not broken
  kept30 : bad_map s (map_at s) ≡ None
  unfolding rule30
  kept30 = (accepted-clear k s n e).1.1.1.1.1.1.1.1.1.1.0

  -- the map's fields
  pub map-fields : GoodMapFields s (map_at s)
  unfolding bad_map
  map-fields = good-fields s (map_at s) (or_else-left (bad_map_field s (map_at s)) _ kept30)

  -- its records
  pub map-records : All (GoodMapRecord s (map_at s)) (records Map s (map_at s))
  unfolding bad_map
  map-records =
      all-map (λ r. bad_map_record s (map_at s) r ≡ None) (GoodMapRecord s (map_at s)) (good-record s (map_at s)) (records Map s (map_at s))
      (first-all (bad_map_record s (map_at s)) (records Map s (map_at s)) (or_else-right (bad_map_field s (map_at s)) _ kept30))

  -- "Record k has Offset k x BlkLength."
  pub record-offset : (i : ℕ) → i < map_count s (map_at s) → le32 s (map_at s + MapData + i * map_record_size + MapOffset) ≡ i * le32 s (map_at s + BlkLength)
  record-offset i h =
      let r : ℕ = map_at s + MapData + i * map_record_size in
      let g : GoodMapRecord s (map_at s) r = nth-all (GoodMapRecord s (map_at s)) (records Map s (map_at s)) i r map-records (record-place k s n e i h) in
      let j : map_number (map_at s) r ≡ i = omega arith in
      g.offset ∙ ap (λ (x : ℕ). x * le32 s (map_at s + BlkLength)) j

  -- rule 32: no reserved byte of a known structure with VerMinor 0 is used
  pub reserved-zero : All (λ p. knows k (shape_at s p) ≡ true → reserved_used s p (shape_at s p) ≡ None) (structures s)
  unfolding rule32
  reserved-zero = known-clear k s (reserved_used s) (accepted-clear k s n e).1.1.1.1.1.1.1.1.1.1.1.1.1.0

  -- rule 33: a known structure has its fixed part, and its fields and records are good
  pub inside-good : All (λ p. knows k (shape_at s p) ≡ true → bad_inside s p (shape_at s p) ≡ None) (structures s)
  unfolding rule33
  inside-good = known-clear k s (bad_inside s) (accepted-clear k s n e).1.1.1.1.1.1.1.1.1.1.1.1.1.1.0
