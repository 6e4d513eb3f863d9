-- The records of a map whose Length has room for n: where they start, and the run that is read of them. Assumes nothing.
use Prim.Native.Nat.{ℕ, ◌+◌, ◌*◌}
use mathlib.Core.List.{List, map, flatten}
use Rattle.std.specs.Prelude.{◌≡◌}
use Rattle.std.proofs.Math.Path.{ap}
use Rattle.std.proofs.Common.{◌∙◌, arith}
use Rattle.board.specs.Records.{map_record_at}
use Rattle.board_layout.specs.Layout.{length_at, end_at, map_at, records}
use Rattle.board_layout.specs.Places.{MapData, map_record_size}
use Rattle.board_layout.specs.declared.Records.TheVariants.{Map}
use Rattle.board_writer.specs.PartsOf.{record_given, records_of}
use Rattle.octets.proofs.laws.Pieces.{map-tab, steps-tab}
use Rattle.chain.specs.Fill.{tab}

module _ (s : List ℕ) (m n : ℕ) (long : length_at s m ≡ MapData + n * map_record_size) where
  -- record k starts at 30h + 20h k of the map
  abbrev place : ℕ → ℕ
  place k = m + MapData + k * map_record_size

  pub record-places : records Map s m ≡ tab place n
  unfolding records end_at
  record-places = steps-tab map_record_size (omega arith) n (m + MapData) (end_at s m) (omega (arith, long))

  -- so the run is label and address of each
  pub run-records : map_at s ≡ m → records_of s ≡ flatten (tab (λ k. record_given (map_record_at s (place k))) n)
  unfolding records_of
  run-records e =
      let given : ℕ → List ℕ = λ r. record_given (map_record_at s r) in
      ap (λ (p : ℕ). flatten (map given (records Map s p))) e ∙ ap (λ (l : List ℕ). flatten (map given l)) record-places
      ∙ ap flatten (map-tab given place n)
