-- The tables of layout paper 000, row by row in its columns Offset, Length and Label; a length that the paper leaves open is `Rest`. Hold them against the paper.
-- Assumes nothing.
use Rattle.std.specs.Prelude.{List, [], ◌∷◌, ◌++◌}
use Rattle.board_layout.specs.declared.Records.{Records}
use Rattle.board_layout.specs.declared.Records.TheVariants.{Map, Gpio}
use Rattle.board_layout.specs.declared.Shape.{Shape}
use Rattle.octets.specs.Rows.{Kind, Number, Bytes, Reserved, Check, Rest, Row, row}

-- the generic header, which every table begins with
abbrev pub header : List Row
header =
    row 0x00 (Kind 0x08) "Signature"
    ∷ row 0x08 (Number 0x02) "VerMajor"
    ∷ row 0x0A (Number 0x02) "VerMinor"
    ∷ row 0x0C (Number 0x04) "Length"
    ∷ []

-- the rows after it
abbrev pub fields : Shape → List Row
fields Shape.Eeprom =
    row 0x10 (Number 0x04) "StructLen"
    ∷ row 0x14 (Check 0x04) "Crc32"
    ∷ row 0x18 (Number 0x04) "CrcLength"
    ∷ row 0x1C (Number 0x04) "Version"
    ∷ row 0x20 (Reserved 0x10) "Reserved"
    ∷ []
fields Shape.AcpiTbl = row 0x10 (Reserved 0x10) "Reserved" ∷ row 0x20 Rest "AcpiTbl" ∷ []
fields Shape.BrdInfo =
    row 0x10 (Bytes 0x10) "ManuName"
    ∷ row 0x20 (Bytes 0x10) "BrdName"
    ∷ row 0x30 (Bytes 0x10) "BrdSerial"
    ∷ row 0x40 (Number 0x04) "BoardId"
    ∷ row 0x44 (Number 0x04) "FabId"
    ∷ row 0x48 (Number 0x04) "EcId"
    ∷ row 0x4C (Number 0x01) "BoardType"
    ∷ row 0x4D (Reserved 0x13) "Reserved"
    ∷ []
fields Shape.EeprMap =
    row 0x10 (Bytes 0x10) "PartLabel"
    ∷ row 0x20 (Number 0x04) "BlkLength"
    ∷ row 0x24 (Number 0x02) "PageSize"
    ∷ row 0x26 (Number 0x04) "PartSize"
    ∷ row 0x2A (Number 0x01) "BusNumber"
    ∷ row 0x2B (Number 0x01) "Master"
    ∷ row 0x2C (Number 0x01) "Speed"
    ∷ row 0x2D (Reserved 0x03) "Reserved"
    ∷ row 0x30 Rest "MapData"
    ∷ []
fields Shape.FpgaNfo =
    row 0x10 (Number 0x01) "DataType"
    ∷ row 0x11 (Number 0x01) "DevNum"
    ∷ row 0x12 (Number 0x01) "FuncNum"
    ∷ row 0x13 (Reserved 0x0D) "Reserved"
    ∷ row 0x20 Rest "FpgaData"
    ∷ []
fields Shape.GpioDat = row 0x10 (Reserved 0x10) "Reserved" ∷ row 0x20 Rest "GpioData" ∷ []
fields Shape.HdCodec = row 0x10 (Reserved 0x10) "Reserved" ∷ row 0x20 Rest "HdaCodec" ∷ []
fields Shape.Logo = row 0x10 (Reserved 0x10) "Reserved" ∷ row 0x20 Rest "LogoData" ∷ []
fields Shape.MemCnfg =
    row 0x10 (Number 0x02) "SpdSlot" ∷ row 0x12 (Reserved 0x0E) "Reserved" ∷ row 0x20 Rest "MemData" ∷ []
fields Shape.MacInfo =
    row 0x10 (Bytes 0x08) "NicId"
    ∷ row 0x18 (Bytes 0x06) "MacAddr"
    ∷ row 0x1E (Number 0x02) "NicNum"
    ∷ row 0x20 (Reserved 0x10) "Reserved"
    ∷ row 0x30 Rest "NicData"
    ∷ []
fields Shape.PromSig =
    row 0x10 (Number 0x02) "HashType" ∷ row 0x12 (Reserved 0x0E) "Reserved" ∷ row 0x20 Rest "EepromSig" ∷ []
fields Shape.UCode = row 0x10 (Reserved 0x10) "Reserved" ∷ row 0x20 Rest "UcodeData" ∷ []
fields Shape.Video = row 0x10 (Reserved 0x10) "Reserved" ∷ row 0x20 Rest "VideoData" ∷ []
fields Shape.Other = []

abbrev pub table : Shape → List Row
table a = header ++ fields a

-- the records of `$EeprMap` and of `$GpioDat`
abbrev pub record_table : Records → List Row
record_table Map =
    row 0x00 (Bytes 0x10) "MapLabel"
    ∷ row 0x10 (Number 0x04) "Length"
    ∷ row 0x14 (Number 0x04) "Offset"
    ∷ row 0x18 (Number 0x01) "Address"
    ∷ row 0x19 (Reserved 0x07) "Reserved"
    ∷ []
record_table Gpio =
    row 0x00 (Bytes 0x10) "GpioLabel"
    ∷ row 0x10 (Number 0x04) "Length"
    ∷ row 0x14 (Number 0x04) "Offset"
    ∷ row 0x18 (Number 0x04) "AndData"
    ∷ row 0x1C (Number 0x04) "OrData"
    ∷ row 0x20 (Number 0x01) "DataSize"
    ∷ row 0x21 (Number 0x01) "DataType"
    ∷ row 0x22 (Reserved 0x0E) "Reserved"
    ∷ []
