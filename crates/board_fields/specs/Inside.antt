-- Rule 33 at one structure: "known structure under its fixed part (30h for `$MacInfo`, else 20h); FPGA or GPIO DataType over 4; GPIO data not whole 30h records,
-- record Length, label, DataSize not 1, 2, 4", at the start, the field, or the label's bad byte. Checks stand in ascending order of place. Assumes nothing.
use Rattle.std.specs.Prelude.{ℕ, ◌+◌, ◌-◌, ◌%◌, not, cond, List, eqb, ltb, Some, None}
use Rattle.board_layout.specs.Layout.{length_at, records}
use Rattle.board_layout.specs.Places.{FpgaDataType, GpioData, gpio_record_size}
use Rattle.board_layout.specs.Shapes.{fixed_part}
use Rattle.board_layout.specs.declared.Records.TheVariants.{Gpio}
use Rattle.board_layout.specs.declared.Shape.{Shape}
use Rattle.board_layout.specs.declared.Shape.TheVariants.{Eeprom, EeprMap, BrdInfo, PromSig, AcpiTbl, FpgaNfo, GpioDat, HdCodec, Logo, MemCnfg, MacInfo, UCode, Video, Other}
use Rattle.board_records.specs.Records.{bad_gpio_record}
use Rattle.chain.specs.First.{first, or_else, when}
use Rattle.chain.specs.Found.{Found}
use Rattle.octets.specs.Bytes.{byte}

-- GPIO data that are not whole records, at the start; then the records
unfoldable pub bad_gpio : List ℕ → ℕ → Found
bad_gpio s p =
    or_else (when (not (eqb ((length_at s p - GpioData) % gpio_record_size) 0)) p) (first (bad_gpio_record s) (records Gpio s p))

-- FPGA DataType
unfoldable pub bad_fpga : List ℕ → ℕ → Found
bad_fpga s p = when (ltb 4 (byte s (p + FpgaDataType))) (p + FpgaDataType)

-- what is asked of a structure that has its fixed part
abbrev pub bad_fields : List ℕ → ℕ → Shape → Found
bad_fields s p Eeprom = None
bad_fields s p EeprMap = None
bad_fields s p BrdInfo = None
bad_fields s p PromSig = None
bad_fields s p AcpiTbl = None
bad_fields s p FpgaNfo = bad_fpga s p
bad_fields s p GpioDat = bad_gpio s p
bad_fields s p HdCodec = None
bad_fields s p Logo = None
bad_fields s p MemCnfg = None
bad_fields s p MacInfo = None
bad_fields s p UCode = None
bad_fields s p Video = None
bad_fields s p Other = None

-- "A field not wholly within its structure's Length is not read; rule 33 with the structure's start answers for it."
unfoldable pub bad_inside : List ℕ → ℕ → Shape → Found
bad_inside s p shape = cond (ltb (length_at s p) (fixed_part shape)) (Some p) (bad_fields s p shape)
