-- The bytes of a table, or of a record, that tell nothing, by computation alone: of a structure of zeros each byte in turn is changed, and those are listed whose
-- change is not seen in what is shown. They are the row Reserved and what follows the fields (of the header Crc32 as well): hold these lists against the columns
-- Offset and Length of layout paper 000. Signature, bytes 0 to 7, is shown of every structure. Assumes nothing.
use Rattle.std.specs.Prelude.{ℕ, ◌-◌, List, [], ◌∷◌, ◌++◌, ◌≡◌, refl, replicate}
use Rattle.board_layout.specs.declared.Shape.{Shape}
use Rattle.board_layout.specs.declared.Shape.TheVariants.{Eeprom, EeprMap, BrdInfo, PromSig, AcpiTbl, FpgaNfo, GpioDat, HdCodec, Logo, MemCnfg, MacInfo, UCode, Video}
use Rattle.board.specs.Items.{rest_at, eeprom_at, eepr_map_at, brd_info_at, prom_sig_fields_at, fpga_nfo_at, mem_cnfg_at, mac_info_at, item_as}
use Rattle.board.specs.Records.{map_record_at, gpio_record_at}
use Rattle.board.specs.Values.{map_record_values, gpio_record_values, FieldValues, fields, not_known, item_fields}
use Rattle.chain.specs.Chain.{visit, chain, range}
use Rattle.chain.specs.Fill.{tab}
use Rattle.chain.specs.First.{first}
use Rattle.chain.specs.Keep.{keep}
use Rattle.octets.specs.Bytes.{le16, le32}
use Rattle.octets.specs.Rows.{Value, number, bytes, part, text, undecodable, Field}
use Rattle.octets.specs.Runs.{difference, same_run}

-- ---- every number that is shown
abbrev value_numbers : Value → List ℕ
value_numbers (number n) = n ∷ []
value_numbers (bytes l) = l
value_numbers (part p n) = p ∷ n ∷ []
value_numbers (text l) = l
value_numbers undecodable = []

abbrev numbers : List Field → List ℕ
numbers [] = []
numbers (f ∷ fs) = value_numbers f.1 ++ numbers fs

abbrev item_numbers : FieldValues → List ℕ
item_numbers (fields l) = numbers l
item_numbers not_known = []

-- ---- the bytes, from one offset up to another, whose change is not seen
abbrev changed : ℕ → List ℕ
changed o = replicate o 0 ++ (1 ∷ replicate (0x5F - o) 0)

abbrev silent : (List ℕ → List ℕ) → ℕ → ℕ → List ℕ
silent shown from to = keep (λ o. same_run (shown (changed o)) 0 (shown (replicate 0x60 0)) 0 64) (range from to)

-- from the versions on
abbrev table : Shape → ℕ → List ℕ
table a to = silent (λ s. item_numbers (item_fields (item_as s 0 a))) 0x08 to

record Tables : Type 0 where
  eeprom : table Eeprom 0x38 ≡ range 0x14 0x18 ++ range 0x20 0x38
  acpi_tbl : table AcpiTbl 0x38 ≡ range 0x10 0x38
  brd_info : table BrdInfo 0x60 ≡ range 0x4D 0x60
  eepr_map : table EeprMap 0x38 ≡ range 0x2D 0x38
  map_record : silent (λ s. numbers (map_record_values (map_record_at s 0))) 0 0x20 ≡ range 0x19 0x20
  fpga_nfo : table FpgaNfo 0x38 ≡ range 0x13 0x38
  gpio_dat : table GpioDat 0x38 ≡ range 0x10 0x38
  gpio_record : silent (λ s. numbers (gpio_record_values (gpio_record_at s 0))) 0 0x30 ≡ range 0x22 0x30
  hd_codec : table HdCodec 0x38 ≡ range 0x10 0x38
  logo : table Logo 0x38 ≡ range 0x10 0x38
  mem_cnfg : table MemCnfg 0x38 ≡ range 0x12 0x38
  mac_info : table MacInfo 0x38 ≡ range 0x20 0x38
  prom_sig : table PromSig 0x38 ≡ range 0x12 0x38
  u_code : table UCode 0x38 ≡ range 0x10 0x38
  video : table Video 0x38 ≡ range 0x10 0x38

tables : Tables
unfolding rest_at eeprom_at eepr_map_at brd_info_at prom_sig_fields_at fpga_nfo_at mem_cnfg_at mac_info_at map_record_at gpio_record_at keep same_run difference visit chain first tab le16 le32
tables =
    record {
      eeprom = refl;
      acpi_tbl = refl;
      brd_info = refl;
      eepr_map = refl;
      map_record = refl;
      fpga_nfo = refl;
      gpio_dat = refl;
      gpio_record = refl;
      hd_codec = refl;
      logo = refl;
      mem_cnfg = refl;
      mac_info = refl;
      prom_sig = refl;
      u_code = refl;
      video = refl;
    }
