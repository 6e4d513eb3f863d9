-- The parts that are read of an image are those it was made of, whatever its check fields are and whatever bytes follow it. Assumes nothing.
use Prim.Native.Nat.{ℕ, ◌+◌, ◌-◌, ◌*◌, ◌%◌, ◌≤◌, ◌<◌}
use mathlib.Core.List.{List, [], ◌∷◌, ◌++◌, flatten}
use Rattle.std.specs.Prelude.{◌≡◌, length, None}
use Rattle.std.proofs.Math.Path.{ap, ap₂}
use Rattle.std.proofs.Common.{◌∙◌, arith}
use Rattle.board.specs.Items.{eeprom_at, eepr_map_at, brd_info_at}
use Rattle.board.specs.Records.{map_record_at}
use Rattle.board_layout.specs.Layout.{header_with}
use Rattle.board_layout.specs.Places.{MapLabel, Address}
use Rattle.board_layout.proofs.laws.Layout.{header-with}
use Rattle.board_writer.specs.Image.{laid_record, image_length, laid, crc_length, check, image, map_place, record_place, further_place}
use Rattle.board_writer.specs.Parts.{Parts, Fits, given_size, record_count, rule46}
use Rattle.board_writer.specs.PartsOf.{map_given, record_given, records_of, further_of, parts_of}
use Rattle.board_writer.proofs.laws.Blocks.{record-lies}
use Rattle.board_writer.proofs.laws.Fields.{version-read, map-read, board-read, further-read}
use Rattle.board_writer.proofs.laws.Length.{record_block}
use Rattle.octets.proofs.laws.Lies.{Lies, run-in}
use Rattle.board_writer.proofs.laws.MapRecords.{run-records}
use Rattle.octets.proofs.laws.Pieces.{flat-runs}
use Rattle.board_writer.proofs.laws.Places.{header-head, map-head, struct-len-is, map-at, board-at, board-end}
use Rattle.chain.specs.Fill.{tab}
use Rattle.chain.proofs.laws.Checks.{kept-equal}
use Rattle.chain.proofs.laws.Fill.{tab-agree}
use Rattle.octets.specs.Bytes.{run, spelled}
use Rattle.octets.proofs.laws.Bytes.{run-all}

-- whole seventeens are given: as many as the records take
pub records-whole : (x : Parts) → rule46 x ≡ None → record_count x * given_size ≡ length x.records
records-whole x e = omega (arith, kept-equal (length x.records % given_size) 0 0 e)

module _ (x : Parts) (check covers : ℕ) (rest : List ℕ) (small : image_length x < 0x1_0000_0000) where
  abbrev s : List ℕ
  s = laid x check covers ++ rest

  -- record k, as the run has it
  record-given : (k : ℕ) → k < record_count x → record_given (map_record_at s (record_place x k)) ≡ run x.records (0 + k * given_size) given_size
  unfolding map_record_at laid_record spelled tab
  record-given k h =
      let r : ℕ = record_place x k in
      let one : List ℕ = record_block x k in
      let lies : Lies s r one = record-lies x check covers rest k h in
      ap₂ (λ (label : List ℕ) (address : ℕ). label ++ (address ∷ [])) (run-in s r one lies MapLabel 16 (omega arith))
      (lies Address (omega arith))
      ∙ ap (λ (p : ℕ). run x.records p given_size) (omega arith)

  -- all of them, where whole seventeens are given
  records-back : rule46 x ≡ None → records_of s ≡ x.records
  records-back good =
      run-records s (map_place x) (record_count x) (omega (arith, (map-head x check covers rest small).length)) (map-at x check covers rest small)
      ∙ ap flatten
      (tab-agree (λ k. record_given (map_record_at s (record_place x k))) (λ k. run x.records (0 + k * given_size) given_size) (record_count x)
      record-given)
      ∙ flat-runs x.records given_size 0 (record_count x)
      ∙ ap (run x.records 0) (records-whole x good)
      ∙ run-all x.records

  -- the further bytes: from the board's end up to StructLen
  further-back : further_of s ≡ x.further
  further-back =
      let count : image_length x - (further_place x) ≡ length x.further = omega arith in
      ap₂ (λ (end board : ℕ). run s board (end - board)) (struct-len-is x check covers rest small) (board-end x check covers rest small)
      ∙ ap (run s (further_place x)) count ∙ further-read x check covers rest

  -- all of it
  pub parts-back : Fits x → rule46 x ≡ None → parts_of s ≡ x
  unfolding parts_of eeprom_at
  parts-back fits good i =
      record {
        header = (ap header_with (header-head x check covers rest small).length ∙ header-with x.header) i;
        version = version-read x check covers rest fits i;
        map = map_given ((ap (eepr_map_at s) (map-at x check covers rest small) ∙ map-read x check covers rest small fits) i);
        records = records-back good i;
        board = (ap (brd_info_at s) (board-at x check covers rest small) ∙ board-read x check covers rest fits) i;
        further = further-back i;
      }

-- so it is of the image that is made
pub parts-image : (x : Parts) (rest : List ℕ) → Fits x → rule46 x ≡ None → image_length x ≤ 65536 → parts_of (image x ++ rest) ≡ x
unfolding image
parts-image x rest fits good small = parts-back x (check x) (crc_length x) rest (omega arith) fits good
