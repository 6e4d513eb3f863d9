-- What the writer takes. Paper 01, "Writers": "Version, the map's fields with one run of records (label and address, seventeen bytes each), the board's fields,
-- labels as sixteen bytes, and one run of further bytes (heads and padding included)"; paper 02, R-6: "The board writer is told which to build", of the two
-- headers. Assumes nothing.
use Rattle.std.specs.Prelude.{ℕ, ◌/◌, ◌%◌, ◌<◌, ◌≡◌, not, List, eqb, length}
use Rattle.board.specs.declared.BrdInfoFields.{BrdInfoFields}
use Rattle.board_layout.specs.declared.Header.{Header}
use Rattle.board_writer.specs.declared.MapFields.{MapFields}
use Rattle.board_writer.specs.declared.Parts as declared
use Rattle.chain.specs.First.{when}
use Rattle.chain.specs.Found.{Found}
use Rattle.octets.specs.Bytes.{Octets}

pub record Parts : Type 0 where
  pub header : Header
  pub version : ℕ
  pub map : MapFields
  pub records : List ℕ
  pub board : BrdInfoFields
  pub further : List ℕ

-- of six values
abbrev pub parts : Header → ℕ → MapFields → List ℕ → BrdInfoFields → List ℕ → Parts
parts header version map records board further =
    record { header = header; version = version; map = map; records = records; board = board; further = further }

-- as a call gives them
abbrev pub given : declared.Parts → Parts
given p = parts p.header p.version p.map p.records.now p.board p.further.now

-- label (16) and address (1)
abbrev pub given_size : ℕ
given_size = 17

-- how many records are given
abbrev pub record_count : Parts → ℕ
record_count x = length x.records / given_size

-- 46: board writer: records not whole seventeens
abbrev pub rule46 : Parts → Found
rule46 x = when (not (eqb (length x.records % given_size) 0)) 0

-- each number fits its field: four bytes, and two for PageSize; and label and names have the sixteen bytes of theirs. (The contract of `write` says that
-- those of every call do.)
pub record Fits (x : Parts) : Type 0 where
  pub version : x.version < 0x1_0000_0000
  pub blk_length : x.map.blklength < 0x1_0000_0000
  pub page_size : x.map.pagesize < 0x1_0000
  pub part_size : x.map.partsize < 0x1_0000_0000
  pub board_id : x.board.boardid < 0x1_0000_0000
  pub fab_id : x.board.fabid < 0x1_0000_0000
  pub ec_id : x.board.ecid < 0x1_0000_0000
  pub part_label : length x.map.partlabel ≡ 16
  pub manu_name : length x.board.manuname ≡ 16
  pub brd_name : length x.board.brdname ≡ 16
  pub brd_serial : length x.board.brdserial ≡ 16

-- each byte is one: those of labels, names and runs, and the fields of one byte. (The contract of `write` says that those of every call are.)
pub record OfBytes (x : Parts) : Type 0 where
  pub part_label : Octets x.map.partlabel
  pub bus_number : x.map.busnumber < 256
  pub master : x.map.master < 256
  pub speed : x.map.speed < 256
  pub records : Octets x.records
  pub manu_name : Octets x.board.manuname
  pub brd_name : Octets x.board.brdname
  pub brd_serial : Octets x.board.brdserial
  pub board_type : x.board.boardtype < 256
  pub further : Octets x.further
