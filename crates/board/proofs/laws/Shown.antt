-- What two images show of one structure or one record: the same, where its fields agree. They end where the reserved field starts, and Crc32 is none of
-- them. Assumes nothing.
use Rattle.std.specs.Prelude.{ℕ, ◌+◌, ◌-◌, ◌≤◌, Bool, List, ◌≡◌, Some, None}
use Rattle.std.proofs.Math.Bool.{true, false, cond}
use Rattle.std.proofs.Math.Path.{refl, ap}
use Rattle.std.proofs.Common.{◌∙◌, arith}
use Rattle.board.specs.Items.{rest_at, eeprom_at, eepr_map_at, brd_info_at, prom_sig_fields_at, fpga_nfo_at, mem_cnfg_at, mac_info_at, known, item_as, item_at}
use Rattle.board.specs.Records.{map_record_at, gpio_record_at}
use Rattle.board.specs.declared.Fields.{Fields}
use Rattle.board_layout.specs.Layout.{shape_at}
use Rattle.board_layout.specs.Places.{head_size, StructLen, Crc32, CrcLength, Version, ManuName, BrdName, BrdSerial, BoardId, FabId, EcId, BoardType, PartLabel, BlkLength, PageSize, PartSize, BusNumber, Master, Speed, MapData, FpgaDataType, DevNum, FuncNum, GpioData, SpdSlot, NicId, MacAddr, NicNum, HashType, EepromSig, MapLabel, MapLength, MapOffset, Address, GpioLabel, GpioLength, GpioOffset, AndData, OrData, DataSize, GpioDataType}
use Rattle.board_layout.specs.Shapes.{knows, reserved_from}
use Rattle.board_layout.specs.declared.Shape.{Shape}
use Rattle.board_layout.specs.declared.Shape.TheVariants.{Eeprom, EeprMap, BrdInfo, PromSig, AcpiTbl, FpgaNfo, GpioDat, HdCodec, Logo, MemCnfg, MacInfo, UCode, Video, Other}
use Rattle.board_layout.proofs.laws.Same.{signature-same, major-same, minor-same, length-same, shape-same}
use Rattle.board_layout.specs.declared.Records.TheVariants.{Map, Gpio}
use Rattle.board_records.specs.Records.{record_from}
use Rattle.kinds.specs.declared.Kinds.{Kinds}
use Rattle.octets.proofs.laws.Same.{Same, same-part, le16-same, le32-same, run-same}

-- ---- the structure at p, whose head agrees
module _ (s t : List ℕ) (p : ℕ) (head : Same s t p (p + head_size)) where
  rest-same : (offset : ℕ) → rest_at s p offset ≡ rest_at t p offset
  unfolding rest_at
  rest-same offset i = record { place = p + offset; length = length-same s t p head i - offset }

  known-same : {f g : Fields} → f ≡ g → known s p f ≡ known t p g
  known-same e i =
      Some (record { major = major-same s t p head i; minor = minor-same s t p head i; length = length-same s t p head i; fields = e i })

  -- the fields of the header: before Crc32, and after it
  pub header-same : Same s t p (p + Crc32) → Same s t (p + CrcLength) (p + reserved_from Eeprom) → item_as s p Eeprom ≡ item_as t p Eeprom
  unfolding eeprom_at
  header-same front back =
      known-same (λ i.
      Fields.Eeprom (record {
        structlen = le32-same s t p (p + Crc32) front (p + StructLen) (omega arith) (omega arith) i;
        crclength = le32-same s t (p + CrcLength) (p + reserved_from Eeprom) back (p + CrcLength) (omega arith) (omega arith) i;
        version = le32-same s t (p + CrcLength) (p + reserved_from Eeprom) back (p + Version) (omega arith) (omega arith) i;
      }))

  -- ---- the fields of the other tables, which agree up to place b
  module _ (b : ℕ) (same : Same s t p b) where
    map-same : p + reserved_from EeprMap ≤ b → eepr_map_at s p ≡ eepr_map_at t p
    unfolding eepr_map_at
    map-same h i =
        record {
          partlabel = run-same s t p b same (p + PartLabel) (omega arith) 16 (omega arith) i;
          blklength = le32-same s t p b same (p + BlkLength) (omega arith) (omega arith) i;
          pagesize = le16-same s t p b same (p + PageSize) (omega arith) (omega arith) i;
          partsize = le32-same s t p b same (p + PartSize) (omega arith) (omega arith) i;
          busnumber = same (p + BusNumber) (omega arith) (omega arith) i;
          master = same (p + Master) (omega arith) (omega arith) i;
          speed = same (p + Speed) (omega arith) (omega arith) i;
          mapdata = rest-same MapData i;
        }

    board-same : p + reserved_from BrdInfo ≤ b → brd_info_at s p ≡ brd_info_at t p
    unfolding brd_info_at
    board-same h i =
        record {
          manuname = run-same s t p b same (p + ManuName) (omega arith) 16 (omega arith) i;
          brdname = run-same s t p b same (p + BrdName) (omega arith) 16 (omega arith) i;
          brdserial = run-same s t p b same (p + BrdSerial) (omega arith) 16 (omega arith) i;
          boardid = le32-same s t p b same (p + BoardId) (omega arith) (omega arith) i;
          fabid = le32-same s t p b same (p + FabId) (omega arith) (omega arith) i;
          ecid = le32-same s t p b same (p + EcId) (omega arith) (omega arith) i;
          boardtype = same (p + BoardType) (omega arith) (omega arith) i;
        }

    prom-sig-same : p + reserved_from PromSig ≤ b → prom_sig_fields_at s p ≡ prom_sig_fields_at t p
    unfolding prom_sig_fields_at
    prom-sig-same h i =
        record { hashtype = le16-same s t p b same (p + HashType) (omega arith) (omega arith) i; eepromsig = rest-same EepromSig i }

    fpga-same : p + reserved_from FpgaNfo ≤ b → fpga_nfo_at s p ≡ fpga_nfo_at t p
    unfolding fpga_nfo_at
    fpga-same h i =
        record {
          datatype = same (p + FpgaDataType) (omega arith) (omega arith) i;
          devnum = same (p + DevNum) (omega arith) (omega arith) i;
          funcnum = same (p + FuncNum) (omega arith) (omega arith) i;
          fpgadata = rest-same 0x20 i;
        }

    memory-same : p + reserved_from MemCnfg ≤ b → mem_cnfg_at s p ≡ mem_cnfg_at t p
    unfolding mem_cnfg_at
    memory-same h i =
        record { spdslot = le16-same s t p b same (p + SpdSlot) (omega arith) (omega arith) i; memdata = rest-same 0x20 i }

    mac-same : p + reserved_from MacInfo ≤ b → mac_info_at s p ≡ mac_info_at t p
    unfolding mac_info_at
    mac-same h i =
        record {
          nicid = run-same s t p b same (p + NicId) (omega arith) 8 (omega arith) i;
          macaddr = run-same s t p b same (p + MacAddr) (omega arith) 6 (omega arith) i;
          nicnum = le16-same s t p b same (p + NicNum) (omega arith) (omega arith) i;
          nicdata = rest-same 0x30 i;
        }

    pub fields-same : (a : Shape) → p + reserved_from a ≤ b → item_as s p a ≡ item_as t p a
    fields-same Eeprom h =
        header-same (same-part s t p b p (p + Crc32) (omega arith) (omega arith) same)
        (same-part s t p b (p + CrcLength) (p + reserved_from Eeprom) (omega arith) h same)
    fields-same EeprMap h = known-same (ap Fields.EeprMap (map-same h))
    fields-same BrdInfo h = known-same (ap Fields.BrdInfo (board-same h))
    fields-same PromSig h = known-same (ap Fields.PromSig (prom-sig-same h))
    fields-same AcpiTbl h = known-same (ap Fields.AcpiTbl (rest-same 0x20))
    fields-same FpgaNfo h = known-same (ap Fields.FpgaNfo (fpga-same h))
    fields-same GpioDat h = known-same (ap Fields.GpioDat (rest-same GpioData))
    fields-same HdCodec h = known-same (ap Fields.HdCodec (rest-same 0x20))
    fields-same Logo h = known-same (ap Fields.Logo (rest-same 0x20))
    fields-same MemCnfg h = known-same (ap Fields.MemCnfg (memory-same h))
    fields-same MacInfo h = known-same (ap Fields.MacInfo (mac-same h))
    fields-same UCode h = known-same (ap Fields.UCode (rest-same 0x20))
    fields-same Video h = known-same (ap Fields.Video (rest-same 0x20))
    fields-same Other h = refl

  -- the item: its fields need agree only where it is known
  pub item-same : (k : Kinds) → (knows k (shape_at s p) ≡ true → item_as s p (shape_at s p) ≡ item_as t p (shape_at s p)) → item_at k s p ≡ item_at k t p
  unfolding item_at
  item-same k fields i =
      record {
        signature = signature-same s t p head i;
        place = p;
        length = length-same s t p head i - head_size;
        item = (go (knows k (shape_at s p)) refl ∙ ap (λ (a : Shape). cond (knows k a) (item_as t p a) None) (shape-same s t p head)) i;
      }
    where
      go : (b : Bool) → knows k (shape_at s p) ≡ b → cond b (item_as s p (shape_at s p)) None ≡ cond b (item_as t p (shape_at s p)) None
      go true e = fields e
      go false e = refl

-- ---- the record at r, whose fields lie in a part that agrees
module _ (s t : List ℕ) (a b : ℕ) (same : Same s t a b) (r : ℕ) (start : a ≤ r) where
  pub map-record-at-same : r + record_from Map ≤ b → map_record_at s r ≡ map_record_at t r
  unfolding map_record_at
  map-record-at-same h i =
      record {
        maplabel = run-same s t a b same (r + MapLabel) (omega arith) 16 (omega arith) i;
        length = le32-same s t a b same (r + MapLength) (omega arith) (omega arith) i;
        offset = record { 0 = le32-same s t a b same (r + MapOffset) (omega arith) (omega arith) i };
        address = record { 0 = same (r + Address) (omega arith) (omega arith) i };
      }

  pub gpio-record-at-same : r + record_from Gpio ≤ b → gpio_record_at s r ≡ gpio_record_at t r
  unfolding gpio_record_at
  gpio-record-at-same h i =
      record {
        gpiolabel = run-same s t a b same (r + GpioLabel) (omega arith) 16 (omega arith) i;
        length = le32-same s t a b same (r + GpioLength) (omega arith) (omega arith) i;
        offset = le32-same s t a b same (r + GpioOffset) (omega arith) (omega arith) i;
        anddata = le32-same s t a b same (r + AndData) (omega arith) (omega arith) i;
        ordata = le32-same s t a b same (r + OrData) (omega arith) (omega arith) i;
        datasize = same (r + DataSize) (omega arith) (omega arith) i;
        datatype = same (r + GpioDataType) (omega arith) (omega arith) i;
      }
