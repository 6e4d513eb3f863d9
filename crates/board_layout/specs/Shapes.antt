-- The tables of layout paper 000: which one a structure has, whether a reader knows it, its fixed part and its reserved field. Assumes nothing.
use Rattle.std.specs.Prelude.{ℕ, Bool, true, false, cond, ◌||◌, ◌≡◌, eqb}
use Rattle.board_layout.specs.declared.Records.{Records}
use Rattle.board_layout.specs.declared.Records.TheVariants.{Map, Gpio}
use Rattle.board_layout.specs.declared.Shape.{Shape}
use Rattle.board_layout.specs.declared.Shape.TheVariants.{Eeprom, EeprMap, BrdInfo, PromSig, AcpiTbl, FpgaNfo, GpioDat, HdCodec, Logo, MemCnfg, MacInfo, UCode, Video, Other}
use Rattle.kinds.specs.Signatures.{eeprom, eepr_map, brd_info, prom_sig, acpi_tbl, fpga_nfo, gpio_dat, hd_codec, logo, mem_cnfg, mac_info, u_code, video}
use Rattle.kinds.specs.declared.Kinds.{Kinds}

-- the table of one of the nine structures that a list may hold, by signature
unfoldable pub listed_shape : ℕ → Shape
listed_shape g =
    cond (eqb g acpi_tbl) AcpiTbl
    (cond (eqb g fpga_nfo) FpgaNfo
    (cond (eqb g gpio_dat) GpioDat
    (cond (eqb g hd_codec) HdCodec
    (cond (eqb g logo) Logo
    (cond (eqb g mem_cnfg) MemCnfg
    (cond (eqb g mac_info) MacInfo
    (cond (eqb g u_code) UCode
    (cond (eqb g video) Video Other))))))))

-- the table of a structure, by signature and VerMajor. The four that count as on every list have theirs with any VerMajor (rules 21 and 26 ask for 1);
-- "A listed board structure counts as known only with VerMajor 1."
unfoldable pub shape_of : ℕ → ℕ → Shape
shape_of g major =
    cond (eqb g eeprom) Eeprom
    (cond (eqb g eepr_map) EeprMap
    (cond (eqb g brd_info) BrdInfo
    (cond (eqb g prom_sig) PromSig
    (cond (eqb major 1) (listed_shape g) Other))))

-- "`$Eeprom$` (item 0), `$EeprMap`, `$BrdInfo` and `$PromSig` count as on every list"
abbrev pub on_every_list : ℕ → Bool
on_every_list g = eqb g eeprom || eqb g eepr_map || eqb g brd_info || eqb g prom_sig

-- whether a structure is known: "`$Eeprom$` (item 0), `$EeprMap`, `$BrdInfo` and `$PromSig` count as on every list". (Rule 25 refuses a later `$Eeprom$`.)
abbrev pub knows : Kinds → Shape → Bool
knows k Eeprom = true
knows k EeprMap = true
knows k BrdInfo = true
knows k PromSig = true
knows k AcpiTbl = k.acpitbl
knows k FpgaNfo = k.fpganfo
knows k GpioDat = k.gpiodat
knows k HdCodec = k.hdcodec
knows k Logo = k.logo
knows k MemCnfg = k.memcnfg
knows k MacInfo = k.macinfo
knows k UCode = k.ucode
knows k Video = k.video
knows k Other = false

-- the fixed part, rule 33: "30h for `$MacInfo`, else 20h"
abbrev pub fixed_part : Shape → ℕ
fixed_part Eeprom = 0x20
fixed_part EeprMap = 0x20
fixed_part BrdInfo = 0x20
fixed_part PromSig = 0x20
fixed_part AcpiTbl = 0x20
fixed_part FpgaNfo = 0x20
fixed_part GpioDat = 0x20
fixed_part HdCodec = 0x20
fixed_part Logo = 0x20
fixed_part MemCnfg = 0x20
fixed_part MacInfo = 0x30
fixed_part UCode = 0x20
fixed_part Video = 0x20
fixed_part Other = 0x20

-- each table has one row Reserved: its offset, and the offset past it
abbrev pub reserved_from : Shape → ℕ
reserved_from Eeprom = 0x20
reserved_from EeprMap = 0x2D
reserved_from BrdInfo = 0x4D
reserved_from PromSig = 0x12
reserved_from AcpiTbl = 0x10
reserved_from FpgaNfo = 0x13
reserved_from GpioDat = 0x10
reserved_from HdCodec = 0x10
reserved_from Logo = 0x10
reserved_from MemCnfg = 0x12
reserved_from MacInfo = 0x20
reserved_from UCode = 0x10
reserved_from Video = 0x10
reserved_from Other = 0x10

abbrev pub reserved_to : Shape → ℕ
reserved_to Eeprom = 0x30
reserved_to EeprMap = 0x30
reserved_to BrdInfo = 0x60
reserved_to PromSig = 0x20
reserved_to AcpiTbl = 0x20
reserved_to FpgaNfo = 0x20
reserved_to GpioDat = 0x20
reserved_to HdCodec = 0x20
reserved_to Logo = 0x20
reserved_to MemCnfg = 0x20
reserved_to MacInfo = 0x30
reserved_to UCode = 0x20
reserved_to Video = 0x20
reserved_to Other = 0x10

-- which records follow the fields of a table: `$EeprMap` and `$GpioDat` have them
abbrev pub HasRecords : Records → Shape → Type 0
HasRecords Map a = a ≡ EeprMap
HasRecords Gpio a = a ≡ GpioDat
