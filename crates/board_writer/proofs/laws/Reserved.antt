-- Rule 32 in an image that can be rebuilt: the reserved bytes of the header, the map, its records and the board are zero, because all three have minor 0 and
-- the full list knows them. Assumes nothing.
use Rattle.std.specs.Prelude.{ℕ, ◌+◌, ◌*◌, ◌≤◌, ◌<◌, List, ◌≡◌, eqb, leb, None, Ok}
use Rattle.std.proofs.Math.Bool.{true}
use Rattle.std.proofs.Math.Logic.{inl, inr}
use Rattle.std.proofs.Math.Path.{refl}
use Rattle.std.proofs.Common.{subst, arith, eq-eqb, le-leb}
use Rattle.board_fields.specs.Reserved.{records_used, reserved_used}
use Rattle.board_layout.specs.Layout.{minor_at, length_at, shape_at, end_at, map_at, board_at, records, map_count}
use Rattle.board_layout.specs.Places.{MapData, map_record_size}
use Rattle.board_layout.specs.Shapes.{shape_of, knows, reserved_from, reserved_to}
use Rattle.board_layout.specs.declared.Records.TheVariants.{Map}
use Rattle.board_layout.specs.declared.Shape.{Shape}
use Rattle.board_layout.specs.declared.Shape.TheVariants.{Eeprom, EeprMap, BrdInfo}
use Rattle.board_records.specs.Records.{field_used, record_used}
use Rattle.board_rules.specs.Judged.{judged}
use Rattle.board_rules.proofs.laws.Accepted.{accepted-clear, header-is, header-length, header-covers, map-second, board-third, map-head, record-place, records-fit, board-head}
use Rattle.board_rules.proofs.laws.Fields.{reserved-zero}
use Rattle.board_rules.proofs.laws.Walk.{first-three}
use Rattle.board_writer.specs.PartsOf.{Rebuildable}
use Rattle.board_writer.proofs.laws.Fixed.{Zero}
use Rattle.chain.specs.First.{or_else}
use Rattle.chain.specs.Found.{Found}
use Rattle.chain.proofs.laws.Checks.{under-mark}
use Rattle.chain.proofs.laws.First.{first-all, or_else-left, or_else-right}
use Rattle.chain.proofs.laws.Nth.{nth-all}
use Rattle.kinds.specs.Kinds.{full}
use Rattle.octets.specs.Runs.{nonzero}
use Rattle.octets.proofs.laws.Runs.{nonzero-none}

-- a field that lies within its structure and is not used is zero
field-zero : (s : List ℕ) (from to end p : ℕ) → p + to ≤ end → field_used s from to end p ≡ None → Zero s p from to
field-zero s from to end p h e =
    nonzero-none s p from to (under-mark (leb (p + to) end) (nonzero s p from to) e (le-leb (p + to) end h))

module _ (s : List ℕ) (n : ℕ) (e : judged full s ≡ Ok n) (r : Rebuildable s) where
  -- what rule 32 says of a structure that the full list knows
  abbrev Kept : ℕ → Type 0
  Kept p = knows full (shape_at s p) ≡ true → reserved_used s p (shape_at s p) ≡ None

  -- it holds of the first three
  kept : Kept 0 × Kept (map_at s) × Kept (board_at s)
  kept = first-three s Kept (accepted-clear full s n e).1.1.1.1.1.0 (reserved-zero full s n e)

  -- in one of them, by its table, with its field within its Length: the field is zero, and no record has a byte used
  clear-at : (p : ℕ) (shape : Shape) → shape_at s p ≡ shape → knows full shape ≡ true → minor_at s p ≡ 0 → reserved_to shape ≤ length_at s p → Kept p
      → Zero s p (reserved_from shape) (reserved_to shape) × (records_used s p shape ≡ None)
  unfolding reserved_used end_at
  clear-at p shape d known minor h k =
      let field : Found = field_used s (reserved_from shape) (reserved_to shape) (end_at s p) p in
      let c : or_else field (records_used s p shape) ≡ None =
      under-mark (eqb (minor_at s p) 0) _ (subst (λ (a : Shape). knows full a ≡ true → reserved_used s p a ≡ None) d k known)
      (eq-eqb (minor_at s p) 0 minor) in (
        field-zero s (reserved_from shape) (reserved_to shape) (end_at s p) p (omega arith) (or_else-left field (records_used s p shape) c),
        or_else-right field (records_used s p shape) c,
      )

  -- the header: its field within its Length, or none
  pub header-zero : Zero s 0 0x20 (length_at s 0)
  unfolding shape_at shape_of
  header-zero i a b =
      elim (header-covers full s n e) [
        | inl whole ↦ (clear-at 0 Eeprom (rw (header-is full s n e).0 refl) refl r.header whole kept.0).0 i a
            (omega (arith, (header-length full s n e).1))
        | inr cut ↦ absurd (omega arith)
      ]

  -- the map: its field, and its records
  map-clear : Zero s (map_at s) 0x2D 0x30 × (records_used s (map_at s) EeprMap ≡ None)
  unfolding shape_at shape_of
  map-clear =
      clear-at (map_at s) EeprMap (rw (map-second full s n e).1 refl) refl r.map (omega (arith, (map-head full s n e).1)) kept.1

  pub map-zero : Zero s (map_at s) 0x2D 0x30
  map-zero = map-clear.0

  -- record i of the map
  pub record-zero : (i : ℕ) → i < map_count s (map_at s) → Zero s (map_at s + MapData + i * map_record_size) 0x19 0x20
  record-zero i h =
      let at : ℕ = map_at s + MapData + i * map_record_size in
      let end : ℕ = end_at s (map_at s) in
      let place = record-place full s n e i h in
      field-zero s 0x19 0x20 end at
      (nth-all (λ q. (map_at s + MapData ≤ q) × (q + map_record_size ≤ end)) (records Map s (map_at s)) i at (records-fit full s n e) place).1
      (nth-all (λ q. record_used Map s (map_at s) q ≡ None) (records Map s (map_at s)) i at
      (first-all (record_used Map s (map_at s)) (records Map s (map_at s)) map-clear.1) place)

  -- the board
  pub board-zero : Zero s (board_at s) 0x4D 0x60
  unfolding shape_at shape_of
  board-zero =
      (clear-at (board_at s) BrdInfo (rw (board-third full s n e).1 refl) refl r.board (omega (arith, (board-head full s n e).1)) kept.2).0
