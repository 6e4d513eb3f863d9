-- Rule 32 at one structure: "reserved byte nonzero in a known structure with VerMinor 0, its records included", at the byte.
-- "A field not wholly within its structure's Length is not read". Assumes nothing.
use Rattle.std.specs.Prelude.{ℕ, cond, List, eqb, None}
use Rattle.board_layout.specs.Layout.{minor_at, end_at, records}
use Rattle.board_layout.specs.Shapes.{reserved_from, reserved_to}
use Rattle.board_layout.specs.declared.Records.TheVariants.{Map, Gpio}
use Rattle.board_layout.specs.declared.Shape.{Shape}
use Rattle.board_layout.specs.declared.Shape.TheVariants.{Eeprom, EeprMap, BrdInfo, PromSig, AcpiTbl, FpgaNfo, GpioDat, HdCodec, Logo, MemCnfg, MacInfo, UCode, Video, Other}
use Rattle.board_records.specs.Records.{field_used, record_used}
use Rattle.chain.specs.First.{first, or_else}
use Rattle.chain.specs.Found.{Found}

-- in the records of the structure at p: only two tables have records
abbrev pub records_used : List ℕ → ℕ → Shape → Found
records_used s p Eeprom = None
records_used s p EeprMap = first (record_used Map s p) (records Map s p)
records_used s p BrdInfo = None
records_used s p PromSig = None
records_used s p AcpiTbl = None
records_used s p FpgaNfo = None
records_used s p GpioDat = first (record_used Gpio s p) (records Gpio s p)
records_used s p HdCodec = None
records_used s p Logo = None
records_used s p MemCnfg = None
records_used s p MacInfo = None
records_used s p UCode = None
records_used s p Video = None
records_used s p Other = None

-- in the structure at p: its own Reserved field, then its records'. "A VerMinor above 0 lifts only rule 32."
unfoldable pub reserved_used : List ℕ → ℕ → Shape → Found
reserved_used s p shape =
    cond (eqb (minor_at s p) 0) (or_else (field_used s (reserved_from shape) (reserved_to shape) (end_at s p) p) (records_used s p shape)) None
