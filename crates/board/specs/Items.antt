-- What is shown of an item. Layout paper 000, its tables; paper 01: "An item not known shows only its kind, place and length. A known one shows each field of
-- its table but reserved bytes; what follows the fields is shown by place and length." Check numbers are never shown. Assumes nothing.
use Rattle.std.specs.Prelude.{ℕ, ◌+◌, ◌-◌, cond, List, Option, Some, None}
use Rattle.board.specs.declared.BrdInfoFields.{BrdInfoFields}
use Rattle.board.specs.declared.EeprMapFields.{EeprMapFields}
use Rattle.board.specs.declared.EepromFields.{EepromFields}
use Rattle.board.specs.declared.Fields.{Fields}
use Rattle.board.specs.declared.FpgaNfoFields.{FpgaNfoFields}
use Rattle.board.specs.AnswerTypes.{Item}
use Rattle.board.specs.declared.MacInfoFields.{MacInfoFields}
use Rattle.board.specs.declared.MemCnfgFields.{MemCnfgFields}
use Rattle.board.specs.declared.PromSigFields.{PromSigFields}
use Rattle.board.specs.declared.ShownItem.{ShownItem}
use Rattle.board_layout.specs.Layout.{signature_at, major_at, minor_at, length_at, shape_at}
use Rattle.board_layout.specs.Places.{head_size, StructLen, CrcLength, Version, AcpiTbl, ManuName, BrdName, BrdSerial, BoardId, FabId, EcId, BoardType, PartLabel, BlkLength, PageSize, PartSize, BusNumber, Master, Speed, MapData, FpgaDataType, DevNum, FuncNum, FpgaData, GpioData, HdaCodec, LogoData, SpdSlot, MemData, NicId, MacAddr, NicNum, NicData, HashType, EepromSig, UcodeData, VideoData}
use Rattle.board_layout.specs.Shapes.{knows}
use Rattle.board_layout.specs.declared.Shape.{Shape}
use Rattle.kinds.specs.declared.Kinds.{Kinds}
use Rattle.octets.specs.Bytes.{byte, le16, le32, run}
use Rattle.octets.specs.declared.Span.{Span}

-- what follows the fields of the structure at p, from an offset on: place and length
unfoldable pub rest_at : List ℕ → ℕ → ℕ → Span
rest_at s p offset = record { place = p + offset; length = length_at s p - offset }

-- $Eeprom$
unfoldable pub eeprom_at : List ℕ → ℕ → EepromFields
eeprom_at s p = record { structlen = le32 s (p + StructLen); crclength = le32 s (p + CrcLength); version = le32 s (p + Version) }

-- $EeprMap
unfoldable pub eepr_map_at : List ℕ → ℕ → EeprMapFields
eepr_map_at s p =
    record {
      partlabel = run s (p + PartLabel) 16;
      blklength = le32 s (p + BlkLength);
      pagesize = le16 s (p + PageSize);
      partsize = le32 s (p + PartSize);
      busnumber = byte s (p + BusNumber);
      master = byte s (p + Master);
      speed = byte s (p + Speed);
      mapdata = rest_at s p MapData;
    }

-- $BrdInfo. "Board names are shown as their sixteen bytes."
unfoldable pub brd_info_at : List ℕ → ℕ → BrdInfoFields
brd_info_at s p =
    record {
      manuname = run s (p + ManuName) 16;
      brdname = run s (p + BrdName) 16;
      brdserial = run s (p + BrdSerial) 16;
      boardid = le32 s (p + BoardId);
      fabid = le32 s (p + FabId);
      ecid = le32 s (p + EcId);
      boardtype = byte s (p + BoardType);
    }

-- $PromSig
unfoldable pub prom_sig_fields_at : List ℕ → ℕ → PromSigFields
prom_sig_fields_at s p = record { hashtype = le16 s (p + HashType); eepromsig = rest_at s p EepromSig }

-- $FPGAnfo
unfoldable pub fpga_nfo_at : List ℕ → ℕ → FpgaNfoFields
fpga_nfo_at s p =
    record { datatype = byte s (p + FpgaDataType); devnum = byte s (p + DevNum); funcnum = byte s (p + FuncNum); fpgadata = rest_at s p FpgaData }

-- $MemCnfg
unfoldable pub mem_cnfg_at : List ℕ → ℕ → MemCnfgFields
mem_cnfg_at s p = record { spdslot = le16 s (p + SpdSlot); memdata = rest_at s p MemData }

-- $MacInfo
unfoldable pub mac_info_at : List ℕ → ℕ → MacInfoFields
mac_info_at s p =
    record { nicid = run s (p + NicId) 8; macaddr = run s (p + MacAddr) 6; nicnum = le16 s (p + NicNum); nicdata = rest_at s p NicData }

-- a known structure: its head, and its fields
abbrev pub known : List ℕ → ℕ → Fields → Item
known s p fields = Some (record { major = major_at s p; minor = minor_at s p; length = length_at s p; fields = fields })

-- a structure with these fields, if it has some
abbrev pub headed : List ℕ → ℕ → Option Fields → Item
headed s p (Some fields) = known s p fields
headed s p None = None

-- by its table
abbrev pub item_as : List ℕ → ℕ → Shape → Item
item_as s p Shape.Eeprom = known s p (Fields.Eeprom (eeprom_at s p))
item_as s p Shape.EeprMap = known s p (Fields.EeprMap (eepr_map_at s p))
item_as s p Shape.BrdInfo = known s p (Fields.BrdInfo (brd_info_at s p))
item_as s p Shape.PromSig = known s p (Fields.PromSig (prom_sig_fields_at s p))
item_as s p Shape.AcpiTbl = known s p (Fields.AcpiTbl (rest_at s p AcpiTbl))
item_as s p Shape.FpgaNfo = known s p (Fields.FpgaNfo (fpga_nfo_at s p))
item_as s p Shape.GpioDat = known s p (Fields.GpioDat (rest_at s p GpioData))
item_as s p Shape.HdCodec = known s p (Fields.HdCodec (rest_at s p HdaCodec))
item_as s p Shape.Logo = known s p (Fields.Logo (rest_at s p LogoData))
item_as s p Shape.MemCnfg = known s p (Fields.MemCnfg (mem_cnfg_at s p))
item_as s p Shape.MacInfo = known s p (Fields.MacInfo (mac_info_at s p))
item_as s p Shape.UCode = known s p (Fields.UCode (rest_at s p UcodeData))
item_as s p Shape.Video = known s p (Fields.Video (rest_at s p VideoData))
item_as s p Shape.Other = None

-- the item at p: signature, place and data length (past the generic head) of every item, and the fields of a known one
unfoldable pub item_at : Kinds → List ℕ → ℕ → ShownItem
item_at k s p =
    record {
      signature = signature_at s p;
      place = p;
      length = length_at s p - head_size;
      item = cond (knows k (shape_at s p)) (item_as s p (shape_at s p)) None;
    }
