-- The fields of an image, read where their structure or record lies, are those it was made of: each is read in its block, and a number that fits its field
-- is what its bytes spell. Assumes nothing.
use Prim.Native.Nat.{ℕ, ◌+◌, ◌-◌, ◌*◌, ◌<◌}
use mathlib.Core.List.{List, ◌++◌}
use Rattle.std.specs.Prelude.{◌≡◌}
use Rattle.std.proofs.Math.Path.{ap}
use Rattle.std.proofs.Common.{◌∙◌, arith}
use Rattle.std.proofs.Math.ListN.{length}
use Rattle.board.specs.Items.{rest_at, eepr_map_at, brd_info_at}
use Rattle.board.specs.Records.{map_record_at}
use Rattle.board_layout.specs.Layout.{length_at}
use Rattle.board_layout.specs.Places.{Crc32, CrcLength, Version, ManuName, BrdName, BrdSerial, BoardId, FabId, EcId, BoardType, PartLabel, BlkLength, PageSize, PartSize, BusNumber, Master, Speed, MapData, MapLabel, MapLength, MapOffset, Address, map_record_size}
use Rattle.board_writer.specs.Image.{laid_record, image_length, laid, map_place, record_place, board_place, further_place}
use Rattle.board_writer.specs.Parts.{Parts, Fits, record_count}
use Rattle.board_writer.specs.Shown.{map_shown, record_shown}
use Rattle.board_writer.proofs.laws.Blocks.{header-lies, map-lies, record-lies, board-lies, further-lies}
use Rattle.board_writer.proofs.laws.Length.{header_block, map_block, record_block, board_block, header-long}
use Rattle.octets.proofs.laws.Lies.{Lies, lies-run, le16-in, le32-in, run-in}
use Rattle.board_writer.proofs.laws.Places.{map-head}
use Rattle.chain.specs.Fill.{tab}
use Rattle.octets.specs.Bytes.{run, spelled, le16, le32}
use Rattle.octets.proofs.laws.Bytes.{sixteen-all}
use Rattle.octets.proofs.laws.Spelled.{little-spelled}

module _ (x : Parts) (check covers : ℕ) (rest : List ℕ) where
  abbrev s : List ℕ
  s = laid x check covers ++ rest

  -- the four bytes of the header's field Crc32, CrcLength or Version
  pub check-read : check < 0x1_0000_0000 → le32 s Crc32 ≡ check
  unfolding spelled le32 tab
  check-read h = le32-in s 0 (header_block x check covers) (header-lies x check covers rest) Crc32 (omega (arith, header-long x check covers)) ∙ little-spelled 4 check h

  pub covers-read : covers < 0x1_0000_0000 → le32 s CrcLength ≡ covers
  unfolding spelled le32 tab
  covers-read h = le32-in s 0 (header_block x check covers) (header-lies x check covers rest) CrcLength (omega (arith, header-long x check covers)) ∙ little-spelled 4 covers h

  pub version-read : Fits x → le32 s Version ≡ x.version
  unfolding spelled le32 tab
  version-read fits =
      le32-in s 0 (header_block x check covers) (header-lies x check covers rest) Version (omega (arith, header-long x check covers)) ∙ little-spelled 4 x.version fits.version

  -- where the records lie
  rest-read : image_length x < 0x1_0000_0000 → rest_at s (map_place x) MapData ≡ record { place = map_place x + MapData; length = map_record_size * record_count x }
  unfolding rest_at
  rest-read small =
      let e : length_at s (map_place x) - MapData ≡ map_record_size * record_count x = omega (arith, (map-head x check covers rest small).length) in
      ap (λ (n : ℕ). record { place = map_place x + MapData; length = n }) e

  -- the map, up to its records
  pub map-read : image_length x < 0x1_0000_0000 → Fits x → eepr_map_at s (map_place x) ≡ map_shown x
  unfolding eepr_map_at spelled le16 le32 tab
  map-read small fits i =
      let map : List ℕ = map_block x in
      let lies : Lies s (map_place x) map = map-lies x check covers rest in
      record {
        partlabel = (run-in s (map_place x) map lies PartLabel 16 (omega arith) ∙ sixteen-all x.map.partlabel fits.part_label) i;
        blklength = (le32-in s (map_place x) map lies BlkLength (omega arith) ∙ little-spelled 4 x.map.blklength fits.blk_length) i;
        pagesize = (le16-in s (map_place x) map lies PageSize (omega arith) ∙ little-spelled 2 x.map.pagesize fits.page_size) i;
        partsize = (le32-in s (map_place x) map lies PartSize (omega arith) ∙ little-spelled 4 x.map.partsize fits.part_size) i;
        busnumber = lies BusNumber (omega arith) i;
        master = lies Master (omega arith) i;
        speed = lies Speed (omega arith) i;
        mapdata = rest-read small i;
      }

  -- a record whose Offset fits its field
  pub record-read : (k : ℕ) → k < record_count x → k * x.map.blklength < 0x1_0000_0000 → map_record_at s (record_place x k) ≡ record_shown x k
  unfolding map_record_at laid_record spelled le32 tab
  record-read k h offset i =
      let r : ℕ = record_place x k in
      let one : List ℕ = record_block x k in
      let lies : Lies s r one = record-lies x check covers rest k h in
      record {
        maplabel = run-in s r one lies MapLabel 16 (omega arith) i;
        length = le32-in s r one lies MapLength (omega arith) i;
        offset = record { 0 = (le32-in s r one lies MapOffset (omega arith) ∙ little-spelled 4 (k * x.map.blklength) offset) i };
        address = record { 0 = lies Address (omega arith) i };
      }

  -- the board
  pub board-read : Fits x → brd_info_at s (board_place x) ≡ x.board
  unfolding brd_info_at spelled le32 tab
  board-read fits i =
      let b : ℕ = board_place x in
      let board : List ℕ = board_block x in
      let lies : Lies s b board = board-lies x check covers rest in
      record {
        manuname = (run-in s b board lies ManuName 16 (omega arith) ∙ sixteen-all x.board.manuname fits.manu_name) i;
        brdname = (run-in s b board lies BrdName 16 (omega arith) ∙ sixteen-all x.board.brdname fits.brd_name) i;
        brdserial = (run-in s b board lies BrdSerial 16 (omega arith) ∙ sixteen-all x.board.brdserial fits.brd_serial) i;
        boardid = (le32-in s b board lies BoardId (omega arith) ∙ little-spelled 4 x.board.boardid fits.board_id) i;
        fabid = (le32-in s b board lies FabId (omega arith) ∙ little-spelled 4 x.board.fabid fits.fab_id) i;
        ecid = (le32-in s b board lies EcId (omega arith) ∙ little-spelled 4 x.board.ecid fits.ec_id) i;
        boardtype = lies BoardType (omega arith) i;
      }

  -- the further bytes
  pub further-read : run s (further_place x) (length x.further) ≡ x.further
  further-read = lies-run s (further_place x) x.further (further-lies x check covers rest)
