-- The blocks of an image and how many bytes each has, and so the image itself, whatever its check fields are. Assumes nothing.
use Rattle.std.specs.Prelude.{ℕ, ◌+◌, ◌*◌, ◌≤◌, List, ◌++◌, ◌≡◌, refl, length}
use Rattle.std.proofs.Common.{◌∙◌, arith, length-append}
use Rattle.board.specs.declared.BrdInfoFields.{BrdInfoFields}
use Rattle.board_layout.specs.Layout.{header_length}
use Rattle.board_layout.specs.Places.{MapData, map_record_size}
use Rattle.board_layout.specs.declared.Header.{Header}
use Rattle.board_layout.specs.declared.Header.TheVariants.{Short, Long}
use Rattle.board_layout.proofs.laws.Layout.{header-size}
use Rattle.board_writer.specs.Image.{header_of, map_of, board_of, laid_record, laid_records, map_length, image_length, body, laid, crc_length, check, image, board_length}
use Rattle.board_writer.specs.Parts.{Parts, record_count}
use Rattle.board_writer.specs.declared.MapFields.{MapFields}
use Rattle.chain.specs.Fill.{tab}
use Rattle.octets.proofs.laws.Pieces.{flat-length}
use Rattle.octets.specs.Bytes.{spelled}

-- ---- the blocks of the parts
abbrev pub header_block : Parts → ℕ → ℕ → List ℕ
header_block x check covers = header_of x.header (image_length x) check covers x.version

abbrev pub map_block : Parts → List ℕ
map_block x = map_of (map_length x) x.map

-- record k, and all of them
abbrev pub record_block : Parts → ℕ → List ℕ
record_block x = laid_record x.records x.map.blklength

abbrev pub records_block : Parts → List ℕ
records_block x = laid_records x.records x.map.blklength (record_count x)

abbrev pub board_block : Parts → List ℕ
board_block x = board_of x.board

-- ---- their lengths
pub header-length : (h : Header) (end check covers version : ℕ) → length (header_of h end check covers version) ≡ header_length h
unfolding spelled
header-length Short end check covers version = refl
header-length Long end check covers version = refl

-- the header of the parts has its fields, up to 20h
pub header-long : (x : Parts) (check covers : ℕ) → 0x20 ≤ length (header_block x check covers)
header-long x check covers =
    omega (arith, header-length x.header (image_length x) check covers x.version, (header-size x.header).0)

pub map-length : (n : ℕ) (m : MapFields) → length (map_of n m) ≡ MapData
unfolding spelled tab
map-length n m = refl

pub record-length : (records : List ℕ) (block k : ℕ) → length (laid_record records block k) ≡ map_record_size
unfolding laid_record spelled tab
record-length records block k = refl

pub board-length : (b : BrdInfoFields) → length (board_of b) ≡ board_length
unfolding spelled tab
board-length b = refl

-- n records
pub records-length : (records : List ℕ) (block n : ℕ) → length (laid_records records block n) ≡ n * map_record_size
unfolding laid_records
records-length records block n = flat-length (laid_record records block) map_record_size n (record-length records block)

-- all that follows the header
pub body-length : (x : Parts) → length (body x) ≡ map_length x + board_length + length x.further
unfolding body
body-length x =
    length-append (map_block x ++ records_block x ++ board_block x) x.further
    ∙ omega (
      arith,
      length-append (map_block x ++ records_block x) (board_block x),
      length-append (map_block x) (records_block x),
      map-length (map_length x) x.map,
      records-length x.records x.map.blklength (record_count x),
      board-length x.board,
    )

-- the image, with any check fields and as it is made
pub laid-length : (x : Parts) (check covers : ℕ) → length (laid x check covers) ≡ image_length x
unfolding laid
laid-length x check covers =
    length-append (header_block x check covers) (body x) ∙ omega (arith, header-length x.header (image_length x) check covers x.version, body-length x)

pub image-length : (x : Parts) → length (image x) ≡ image_length x
unfolding image
image-length x = laid-length x (check x) (crc_length x)
