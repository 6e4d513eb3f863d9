-- The paper's numbers and values of each answer: a refusal's number and place; signature, place and data length of an item, and the fields of a known one and of
-- a record, each under its label of layout paper 000. Names, labels and addresses are their bytes, and what follows the fields is its place and length. What the
-- demands say of board images is said of these values. Assumes nothing.
use Rattle.std.specs.Prelude.{ℕ, List, [], ◌∷◌, Some, None}
use Prim.Native.String.{String}
use Rattle.board.specs.declared.Fields.{Fields}
use Rattle.board.specs.declared.GpioRecord.{GpioRecord}
use Rattle.board.specs.AnswerTypes.{GpioRecordAnswer, Item, ItemAnswer, MapRecordAnswer}
use Rattle.board.specs.declared.Known.{Known}
use Rattle.board.specs.declared.MapRecord.{MapRecord}
use Rattle.board.specs.declared.ShownItem.{ShownItem}
use Rattle.octets.specs.Bytes.{spelled}
use Rattle.octets.specs.Rows.{Field, number, bytes, part}
use Rattle.octets.specs.declared.Span.{Span}
use Rattle.verdict.specs.Said.{Said, said_by}

-- a number; a name or label of sixteen bytes; what follows the fields
abbrev pub counted : String → ℕ → Field
counted label n = (label, number n)

abbrev pub named : String → List ℕ → Field
named label x = (label, bytes x)

abbrev pub follows : String → Span → Field
follows label x = (label, part x.place x.length)

-- the fields by their table
abbrev pub field_values : Fields → List Field
field_values (Fields.Eeprom x) = counted "StructLen" x.structlen ∷ counted "CrcLength" x.crclength ∷ counted "Version" x.version ∷ []
field_values (Fields.EeprMap x) =
    named "PartLabel" x.partlabel
    ∷ counted "BlkLength" x.blklength
    ∷ counted "PageSize" x.pagesize
    ∷ counted "PartSize" x.partsize
    ∷ counted "BusNumber" x.busnumber
    ∷ counted "Master" x.master
    ∷ counted "Speed" x.speed
    ∷ follows "MapData" x.mapdata
    ∷ []
field_values (Fields.BrdInfo x) =
    named "ManuName" x.manuname
    ∷ named "BrdName" x.brdname
    ∷ named "BrdSerial" x.brdserial
    ∷ counted "BoardId" x.boardid
    ∷ counted "FabId" x.fabid
    ∷ counted "EcId" x.ecid
    ∷ counted "BoardType" x.boardtype
    ∷ []
field_values (Fields.PromSig x) = counted "HashType" x.hashtype ∷ follows "EepromSig" x.eepromsig ∷ []
field_values (Fields.AcpiTbl x) = follows "AcpiTbl" x ∷ []
field_values (Fields.FpgaNfo x) =
    counted "DataType" x.datatype ∷ counted "DevNum" x.devnum ∷ counted "FuncNum" x.funcnum ∷ follows "FpgaData" x.fpgadata ∷ []
field_values (Fields.GpioDat x) = follows "GpioData" x ∷ []
field_values (Fields.HdCodec x) = follows "HdaCodec" x ∷ []
field_values (Fields.Logo x) = follows "LogoData" x ∷ []
field_values (Fields.MemCnfg x) = counted "SpdSlot" x.spdslot ∷ follows "MemData" x.memdata ∷ []
field_values (Fields.MacInfo x) =
    ("NicId", bytes x.nicid) ∷ ("MacAddr", bytes x.macaddr) ∷ counted "NicNum" x.nicnum ∷ follows "NicData" x.nicdata ∷ []
field_values (Fields.UCode x) = follows "UcodeData" x ∷ []
field_values (Fields.Video x) = follows "VideoData" x ∷ []

-- a known structure: its head's numbers, then its fields
abbrev pub known_values : Known → List Field
known_values x = counted "VerMajor" x.major ∷ counted "VerMinor" x.minor ∷ counted "Length" x.length ∷ field_values x.fields

-- the records
abbrev pub map_record_values : MapRecord → List Field
map_record_values x =
    named "MapLabel" x.maplabel ∷ counted "Length" x.length ∷ counted "Offset" x.offset.0 ∷ counted "Address" x.address.0 ∷ []

abbrev pub gpio_record_values : GpioRecord → List Field
gpio_record_values x =
    named "GpioLabel" x.gpiolabel
    ∷ counted "Length" x.length
    ∷ counted "Offset" x.offset
    ∷ counted "AndData" x.anddata
    ∷ counted "OrData" x.ordata
    ∷ counted "DataSize" x.datasize
    ∷ counted "DataType" x.datatype
    ∷ []

-- the fields of a known structure; "An item not known shows only its kind, place and length."
pub data FieldValues : Type 0 where
  fields : List Field → FieldValues
  not_known : FieldValues

abbrev pub item_fields : Item → FieldValues
item_fields (Some x) = fields (known_values x)
item_fields None = not_known

-- kind (the eight signature bytes), place and data length of every item, and its fields
pub record ItemValues : Type 0 where
  pub kind : List ℕ
  pub place : ℕ
  pub length : ℕ
  pub shown : FieldValues

abbrev pub item_values : ShownItem → ItemValues
item_values x = record { kind = spelled 8 x.signature; place = x.place; length = x.length; shown = item_fields x.item }

-- item by number
abbrev pub item_said : ItemAnswer → Said ItemValues
item_said a = said_by item_values a

-- record of the map by number
abbrev pub map_record_said : MapRecordAnswer → Said (List Field)
map_record_said a = said_by map_record_values a

-- record of GPIO data by number
abbrev pub gpio_record_said : GpioRecordAnswer → Said (List Field)
gpio_record_said a = said_by gpio_record_values a
