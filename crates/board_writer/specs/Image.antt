-- The image that the writer makes. Paper 01, "Writers": "It works out Lengths, Offsets and the check fields by the rules above, and writes minor 0 and zero
-- reserved bytes." Each structure has its fields in the order of layout paper 000. Assumes nothing.
use Rattle.std.specs.Prelude.{ℕ, ◌+◌, ◌-◌, ◌*◌, length, replicate}
use mathlib.Core.List.{List, ◌∷◌, ◌++◌, flatten}
use Rattle.board.specs.declared.BrdInfoFields.{BrdInfoFields}
use Rattle.board_layout.specs.Layout.{header_length}
use Rattle.board_layout.specs.Places.{MapData, map_record_size}
use Rattle.board_layout.specs.declared.Header.{Header}
use Rattle.board_rules.specs.Rules.{covered, check_over}
use Rattle.board_writer.specs.Parts.{Parts, given_size, record_count}
use Rattle.board_writer.specs.declared.MapFields.{MapFields}
use Rattle.chain.specs.Fill.{tab}
use Rattle.kinds.specs.Signatures.{eeprom, eepr_map, brd_info}
use Rattle.octets.specs.Bytes.{byte, spelled, run}
use Rattle.octets.specs.Runs.{sixteen}

-- reserved bytes
abbrev pub zeros : ℕ → List ℕ
zeros n = replicate n 0

-- the generic head: Signature, VerMajor 1, VerMinor 0, Length
abbrev pub head : ℕ → ℕ → List ℕ
head signature size = spelled 8 signature ++ spelled 2 1 ++ spelled 2 0 ++ spelled 4 size

-- $Eeprom$: StructLen, Crc32, CrcLength, Version, and from 20h on Reserved, where its Length covers it
abbrev pub header_of : Header → ℕ → ℕ → ℕ → ℕ → List ℕ
header_of header end check covers version =
    head eeprom (header_length header) ++ spelled 4 end ++ spelled 4 check ++ spelled 4 covers ++ spelled 4 version ++ zeros (header_length header - 0x20)

-- $EeprMap of a Length, up to its records: PartLabel, BlkLength, PageSize, PartSize, BusNumber, Master, Speed, Reserved
abbrev pub map_of : ℕ → MapFields → List ℕ
map_of size m =
    head eepr_map size ++ sixteen m.partlabel ++ spelled 4 m.blklength ++ spelled 2 m.pagesize ++ spelled 4 m.partsize
    ++ (m.busnumber ∷ m.master ∷ m.speed ∷ zeros 3)

-- a map record: Label, Length (the record's own size, 20h), Offset, Address, Reserved
abbrev pub record_of : List ℕ → ℕ → ℕ → List ℕ
record_of label offset address = label ++ spelled 4 map_record_size ++ spelled 4 offset ++ (address ∷ zeros 7)

-- $BrdInfo has Length 60h
abbrev pub board_length : ℕ
board_length = 0x60

-- $BrdInfo: ManuName, BrdName, BrdSerial, BoardId, FabId, EcId, BoardType, Reserved
abbrev pub board_of : BrdInfoFields → List ℕ
board_of b =
    head brd_info board_length ++ sixteen b.manuname ++ sixteen b.brdname ++ sixteen b.brdserial ++ spelled 4 b.boardid
    ++ spelled 4 b.fabid ++ spelled 4 b.ecid ++ (b.boardtype ∷ zeros 19)

-- record k of the run, laid: "Record k has Offset k x BlkLength". (An Offset over 32 bits keeps its low ones; the reader refuses the image.)
unfoldable pub laid_record : List ℕ → ℕ → ℕ → List ℕ
laid_record records block k =
    record_of (run records (given_size * k) 16) (k * block) (byte records (given_size * k + 16))

-- the first n of them
unfoldable pub laid_records : List ℕ → ℕ → ℕ → List ℕ
laid_records records block n = flatten (tab (laid_record records block) n)

-- the map's Length: 30h + 20h n
abbrev pub map_length : Parts → ℕ
map_length x = MapData + map_record_size * record_count x

-- where the map starts, its record k, the board, and the further bytes
abbrev pub map_place : Parts → ℕ
map_place x = header_length x.header

abbrev pub record_place : Parts → ℕ → ℕ
record_place x k = map_place x + MapData + k * map_record_size

abbrev pub board_place : Parts → ℕ
board_place x = map_place x + map_length x

abbrev pub further_place : Parts → ℕ
further_place x = board_place x + board_length

-- "StructLen is where they end"
abbrev pub image_length : Parts → ℕ
image_length x = further_place x + length x.further

-- all that follows the header. "further bytes .. laid right after `$BrdInfo`"
unfoldable pub body : Parts → List ℕ
body x = map_of (map_length x) x.map ++ laid_records x.records x.map.blklength (record_count x) ++ board_of x.board ++ x.further

-- the image with these check fields
unfoldable pub laid : Parts → ℕ → ℕ → List ℕ
laid x check covers = header_of x.header (image_length x) check covers x.version ++ body x

-- the check fields: what rule 27 expects of it, also where the further bytes end in a `$PromSig`
unfoldable pub crc_length : Parts → ℕ
crc_length x = covered (laid x 0 0)

unfoldable pub check : Parts → ℕ
check x = check_over (laid x 0 (crc_length x)) (crc_length x)

unfoldable pub image : Parts → List ℕ
image x = laid x (check x) (crc_length x)
