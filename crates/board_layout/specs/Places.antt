-- Where each field lies, counted from the start of its structure or record: the columns Offset and Label of the tables of layout paper 000, in its order.
-- Signature is at 0 everywhere. Reserved fields are in Shapes.antt. Assumes nothing.
use Rattle.std.specs.Prelude.{ℕ}

-- ---- the generic header
abbrev pub VerMajor : ℕ
VerMajor = 0x08

abbrev pub VerMinor : ℕ
VerMinor = 0x0A

abbrev pub Length : ℕ
Length = 0x0C

-- it has sixteen bytes
abbrev pub head_size : ℕ
head_size = 0x10

-- ---- $Eeprom$
abbrev pub StructLen : ℕ
StructLen = 0x10

abbrev pub Crc32 : ℕ
Crc32 = 0x14

abbrev pub CrcLength : ℕ
CrcLength = 0x18

abbrev pub Version : ℕ
Version = 0x1C

-- ---- $AcpiTbl
abbrev pub AcpiTbl : ℕ
AcpiTbl = 0x20

-- ---- $BrdInfo
abbrev pub ManuName : ℕ
ManuName = 0x10

abbrev pub BrdName : ℕ
BrdName = 0x20

abbrev pub BrdSerial : ℕ
BrdSerial = 0x30

abbrev pub BoardId : ℕ
BoardId = 0x40

abbrev pub FabId : ℕ
FabId = 0x44

abbrev pub EcId : ℕ
EcId = 0x48

abbrev pub BoardType : ℕ
BoardType = 0x4C

-- ---- $EeprMap
abbrev pub PartLabel : ℕ
PartLabel = 0x10

abbrev pub BlkLength : ℕ
BlkLength = 0x20

abbrev pub PageSize : ℕ
PageSize = 0x24

abbrev pub PartSize : ℕ
PartSize = 0x26

abbrev pub BusNumber : ℕ
BusNumber = 0x2A

abbrev pub Master : ℕ
Master = 0x2B

abbrev pub Speed : ℕ
Speed = 0x2C

abbrev pub MapData : ℕ
MapData = 0x30

-- ---- a map record. "A map record's Length is the record's own size, 20h."
abbrev pub MapLabel : ℕ
MapLabel = 0x00

abbrev pub MapLength : ℕ
MapLength = 0x10

abbrev pub MapOffset : ℕ
MapOffset = 0x14

abbrev pub Address : ℕ
Address = 0x18

abbrev pub map_record_size : ℕ
map_record_size = 0x20

-- ---- $FPGAnfo
abbrev pub FpgaDataType : ℕ
FpgaDataType = 0x10

abbrev pub DevNum : ℕ
DevNum = 0x11

abbrev pub FuncNum : ℕ
FuncNum = 0x12

abbrev pub FpgaData : ℕ
FpgaData = 0x20

-- ---- $GpioDat
abbrev pub GpioData : ℕ
GpioData = 0x20

-- ---- a GPIO record. "whole 30h records"
abbrev pub GpioLabel : ℕ
GpioLabel = 0x00

abbrev pub GpioLength : ℕ
GpioLength = 0x10

abbrev pub GpioOffset : ℕ
GpioOffset = 0x14

abbrev pub AndData : ℕ
AndData = 0x18

abbrev pub OrData : ℕ
OrData = 0x1C

abbrev pub DataSize : ℕ
DataSize = 0x20

abbrev pub GpioDataType : ℕ
GpioDataType = 0x21

abbrev pub gpio_record_size : ℕ
gpio_record_size = 0x30

-- ---- $HdCodec
abbrev pub HdaCodec : ℕ
HdaCodec = 0x20

-- ---- $Logo$
abbrev pub LogoData : ℕ
LogoData = 0x20

-- ---- $MemCnfg
abbrev pub SpdSlot : ℕ
SpdSlot = 0x10

abbrev pub MemData : ℕ
MemData = 0x20

-- ---- $MacInfo
abbrev pub NicId : ℕ
NicId = 0x10

abbrev pub MacAddr : ℕ
MacAddr = 0x18

abbrev pub NicNum : ℕ
NicNum = 0x1E

abbrev pub NicData : ℕ
NicData = 0x30

-- ---- $PromSig
abbrev pub HashType : ℕ
HashType = 0x10

abbrev pub EepromSig : ℕ
EepromSig = 0x20

-- ---- $uCode$
abbrev pub UcodeData : ℕ
UcodeData = 0x20

-- ---- $Video$
abbrev pub VideoData : ℕ
VideoData = 0x20
