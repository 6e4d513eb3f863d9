-- What each table shows of bytes that differ at every place: the thirteen structures, a map record and a GPIO record, each value written out and held to what
-- the definitions give by computation. Assumes nothing.
use Rattle.std.specs.Prelude.{ℕ, List, [], ◌∷◌, ◌++◌, ◌≡◌, refl}
use Rattle.board.specs.Items.{rest_at, eeprom_at, eepr_map_at, brd_info_at, prom_sig_fields_at, fpga_nfo_at, mem_cnfg_at, mac_info_at, item_as}
use Rattle.board.specs.Records.{map_record_at, gpio_record_at}
use Rattle.board.specs.Values.{item_fields, fields, map_record_values, gpio_record_values}
use Rattle.board_layout.specs.declared.Shape.{Shape}
use Rattle.chain.specs.All.{All}
use Rattle.chain.specs.Fill.{tab}
use Rattle.octets.specs.Bytes.{le16, le32}
use Rattle.octets.specs.Rows.{Field, number, bytes, part}

-- a structure of Length 67h at 10h: its byte at offset o is 90h + o, save in Length
abbrev image : List ℕ
image =
    0x80 ∷ 0x81 ∷ 0x82 ∷ 0x83 ∷ 0x84 ∷ 0x85 ∷ 0x86 ∷ 0x87 ∷ 0x88 ∷ 0x89 ∷ 0x8A ∷ 0x8B ∷ 0x8C ∷ 0x8D ∷ 0x8E ∷ 0x8F
    ∷ 0x90 ∷ 0x91 ∷ 0x92 ∷ 0x93 ∷ 0x94 ∷ 0x95 ∷ 0x96 ∷ 0x97 ∷ 0x98 ∷ 0x99 ∷ 0x9A ∷ 0x9B ∷ 0x67 ∷ 0x00 ∷ 0x00 ∷ 0x00
    ∷ 0xA0 ∷ 0xA1 ∷ 0xA2 ∷ 0xA3 ∷ 0xA4 ∷ 0xA5 ∷ 0xA6 ∷ 0xA7 ∷ 0xA8 ∷ 0xA9 ∷ 0xAA ∷ 0xAB ∷ 0xAC ∷ 0xAD ∷ 0xAE ∷ 0xAF
    ∷ 0xB0 ∷ 0xB1 ∷ 0xB2 ∷ 0xB3 ∷ 0xB4 ∷ 0xB5 ∷ 0xB6 ∷ 0xB7 ∷ 0xB8 ∷ 0xB9 ∷ 0xBA ∷ 0xBB ∷ 0xBC ∷ 0xBD ∷ 0xBE ∷ 0xBF
    ∷ 0xC0 ∷ 0xC1 ∷ 0xC2 ∷ 0xC3 ∷ 0xC4 ∷ 0xC5 ∷ 0xC6 ∷ 0xC7 ∷ 0xC8 ∷ 0xC9 ∷ 0xCA ∷ 0xCB ∷ 0xCC ∷ 0xCD ∷ 0xCE ∷ 0xCF
    ∷ 0xD0 ∷ 0xD1 ∷ 0xD2 ∷ 0xD3 ∷ 0xD4 ∷ 0xD5 ∷ 0xD6 ∷ 0xD7 ∷ 0xD8 ∷ 0xD9 ∷ 0xDA ∷ 0xDB ∷ 0xDC ∷ 0xDD ∷ 0xDE ∷ 0xDF
    ∷ 0xE0 ∷ 0xE1 ∷ 0xE2 ∷ 0xE3 ∷ 0xE4 ∷ 0xE5 ∷ 0xE6 ∷ 0xE7 ∷ 0xE8 ∷ 0xE9 ∷ 0xEA ∷ 0xEB ∷ 0xEC ∷ 0xED ∷ 0xEE ∷ 0xEF
    ∷ 0xF0 ∷ 0xF1 ∷ 0xF2 ∷ 0xF3 ∷ 0xF4 ∷ 0xF5 ∷ 0xF6
    ∷ []

-- what is shown of its generic header, which every table begins with
abbrev header : List Field
header = ("VerMajor", number 0x9998) ∷ ("VerMinor", number 0x9B9A) ∷ ("Length", number 0x67) ∷ []

-- a row of the table: what is shown by one of the paper's
data Example : Type 0 where
  -- of the structure, after its header
  structure : Shape → List Field → Example
  -- of a map record at 20h, and of a GPIO record at 30h
  map_record : List Field → Example
  gpio_record : List Field → Example

abbrev Holds : Example → Type 0
Holds (structure table shown) = item_fields (item_as image 0x10 table) ≡ fields (header ++ shown)
Holds (map_record shown) = map_record_values (map_record_at image 0x20) ≡ shown
Holds (gpio_record shown) = gpio_record_values (gpio_record_at image 0x30) ≡ shown

-- structures in the order of the paper, then the records
abbrev examples : List Example
examples =
    structure Shape.Eeprom
    (("StructLen", number 0xA3A2A1A0)
    ∷ ("CrcLength", number 0xABAAA9A8)
    ∷ ("Version", number 0xAFAEADAC)
    ∷ [])
    ∷ structure Shape.AcpiTbl (("AcpiTbl", part 0x30 0x47) ∷ [])
    ∷ structure Shape.BrdInfo
    (("ManuName", bytes (0xA0 ∷ 0xA1 ∷ 0xA2 ∷ 0xA3 ∷ 0xA4 ∷ 0xA5 ∷ 0xA6 ∷ 0xA7 ∷ 0xA8 ∷ 0xA9 ∷ 0xAA ∷ 0xAB ∷ 0xAC ∷ 0xAD ∷ 0xAE ∷ 0xAF ∷ []))
    ∷ ("BrdName", bytes (0xB0 ∷ 0xB1 ∷ 0xB2 ∷ 0xB3 ∷ 0xB4 ∷ 0xB5 ∷ 0xB6 ∷ 0xB7 ∷ 0xB8 ∷ 0xB9 ∷ 0xBA ∷ 0xBB ∷ 0xBC ∷ 0xBD ∷ 0xBE ∷ 0xBF ∷ []))
    ∷ ("BrdSerial", bytes (0xC0 ∷ 0xC1 ∷ 0xC2 ∷ 0xC3 ∷ 0xC4 ∷ 0xC5 ∷ 0xC6 ∷ 0xC7 ∷ 0xC8 ∷ 0xC9 ∷ 0xCA ∷ 0xCB ∷ 0xCC ∷ 0xCD ∷ 0xCE ∷ 0xCF ∷ []))
    ∷ ("BoardId", number 0xD3D2D1D0)
    ∷ ("FabId", number 0xD7D6D5D4)
    ∷ ("EcId", number 0xDBDAD9D8)
    ∷ ("BoardType", number 0xDC)
    ∷ [])
    ∷ structure Shape.EeprMap
    (("PartLabel", bytes (0xA0 ∷ 0xA1 ∷ 0xA2 ∷ 0xA3 ∷ 0xA4 ∷ 0xA5 ∷ 0xA6 ∷ 0xA7 ∷ 0xA8 ∷ 0xA9 ∷ 0xAA ∷ 0xAB ∷ 0xAC ∷ 0xAD ∷ 0xAE ∷ 0xAF ∷ []))
    ∷ ("BlkLength", number 0xB3B2B1B0)
    ∷ ("PageSize", number 0xB5B4)
    ∷ ("PartSize", number 0xB9B8B7B6)
    ∷ ("BusNumber", number 0xBA)
    ∷ ("Master", number 0xBB)
    ∷ ("Speed", number 0xBC)
    ∷ ("MapData", part 0x40 0x37)
    ∷ [])
    ∷ structure Shape.FpgaNfo
    (("DataType", number 0xA0)
    ∷ ("DevNum", number 0xA1)
    ∷ ("FuncNum", number 0xA2)
    ∷ ("FpgaData", part 0x30 0x47)
    ∷ [])
    ∷ structure Shape.GpioDat (("GpioData", part 0x30 0x47) ∷ [])
    ∷ structure Shape.HdCodec (("HdaCodec", part 0x30 0x47) ∷ [])
    ∷ structure Shape.Logo (("LogoData", part 0x30 0x47) ∷ [])
    ∷ structure Shape.MemCnfg (("SpdSlot", number 0xA1A0) ∷ ("MemData", part 0x30 0x47) ∷ [])
    ∷ structure Shape.MacInfo
    (("NicId", bytes (0xA0 ∷ 0xA1 ∷ 0xA2 ∷ 0xA3 ∷ 0xA4 ∷ 0xA5 ∷ 0xA6 ∷ 0xA7 ∷ []))
    ∷ ("MacAddr", bytes (0xA8 ∷ 0xA9 ∷ 0xAA ∷ 0xAB ∷ 0xAC ∷ 0xAD ∷ []))
    ∷ ("NicNum", number 0xAFAE)
    ∷ ("NicData", part 0x40 0x37)
    ∷ [])
    ∷ structure Shape.PromSig (("HashType", number 0xA1A0) ∷ ("EepromSig", part 0x30 0x47) ∷ [])
    ∷ structure Shape.UCode (("UcodeData", part 0x30 0x47) ∷ [])
    ∷ structure Shape.Video (("VideoData", part 0x30 0x47) ∷ [])
    ∷ map_record
    (("MapLabel", bytes (0xA0 ∷ 0xA1 ∷ 0xA2 ∷ 0xA3 ∷ 0xA4 ∷ 0xA5 ∷ 0xA6 ∷ 0xA7 ∷ 0xA8 ∷ 0xA9 ∷ 0xAA ∷ 0xAB ∷ 0xAC ∷ 0xAD ∷ 0xAE ∷ 0xAF ∷ []))
    ∷ ("Length", number 0xB3B2B1B0)
    ∷ ("Offset", number 0xB7B6B5B4)
    ∷ ("Address", number 0xB8)
    ∷ [])
    ∷ gpio_record
    (("GpioLabel", bytes (0xB0 ∷ 0xB1 ∷ 0xB2 ∷ 0xB3 ∷ 0xB4 ∷ 0xB5 ∷ 0xB6 ∷ 0xB7 ∷ 0xB8 ∷ 0xB9 ∷ 0xBA ∷ 0xBB ∷ 0xBC ∷ 0xBD ∷ 0xBE ∷ 0xBF ∷ []))
    ∷ ("Length", number 0xC3C2C1C0)
    ∷ ("Offset", number 0xC7C6C5C4)
    ∷ ("AndData", number 0xCBCAC9C8)
    ∷ ("OrData", number 0xCFCECDCC)
    ∷ ("DataSize", number 0xD0)
    ∷ ("DataType", number 0xD1)
    ∷ [])
    ∷ []

fields-shown : All Holds examples
unfolding rest_at eeprom_at eepr_map_at brd_info_at prom_sig_fields_at fpga_nfo_at mem_cnfg_at mac_info_at map_record_at gpio_record_at le16 le32 tab
fields-shown =
    (refl, (refl, (refl, (refl, (refl, (refl, (refl, (refl, (refl, (refl, (refl, (refl, (refl, (refl, (refl, tt)))))))))))))))
