-- Which tables have records, or a field that rule 33 asks about: the map's, the FPGA's and the GPIO data's. Rules 32 and 33 find nothing more in the others.
-- Assumes nothing.
use Rattle.std.specs.Prelude.{ℕ, List, ◌≡◌, refl, None}
use Rattle.std.proofs.Common.{arith}
use Rattle.board_fields.specs.Inside.{bad_fields}
use Rattle.board_fields.specs.Reserved.{records_used}
use Rattle.board_layout.specs.declared.Shape.{Shape}
use Rattle.board_layout.specs.declared.Shape.TheVariants.{Eeprom, EeprMap, BrdInfo, PromSig, AcpiTbl, FpgaNfo, GpioDat, HdCodec, Logo, MemCnfg, MacInfo, UCode, Video, Other}

-- zero is not one
pub no : ◌≡◌ {A = ℕ} 0 1 → ⊥
no e = omega arith

-- the three tables with records, or with a field that rule 33 asks about; and the others
pub data TableOf : Shape → Type 0 where
  map : TableOf EeprMap
  fpga : TableOf FpgaNfo
  gpio : TableOf GpioDat
  others : (a : Shape) → ((s : List ℕ) (p : ℕ) → (records_used s p a ≡ None) × (bad_fields s p a ≡ None))
      → (a ≡ EeprMap → ⊥) × (a ≡ FpgaNfo → ⊥) × (a ≡ GpioDat → ⊥) → TableOf a

pub table-of : (a : Shape) → TableOf a
table-of Eeprom = others Eeprom (λ s p. (refl, refl)) (λ e. no (cc), λ e. no (cc), λ e. no (cc))
table-of EeprMap = map
table-of BrdInfo = others BrdInfo (λ s p. (refl, refl)) (λ e. no (cc), λ e. no (cc), λ e. no (cc))
table-of PromSig = others PromSig (λ s p. (refl, refl)) (λ e. no (cc), λ e. no (cc), λ e. no (cc))
table-of AcpiTbl = others AcpiTbl (λ s p. (refl, refl)) (λ e. no (cc), λ e. no (cc), λ e. no (cc))
table-of FpgaNfo = fpga
table-of GpioDat = gpio
table-of HdCodec = others HdCodec (λ s p. (refl, refl)) (λ e. no (cc), λ e. no (cc), λ e. no (cc))
table-of Logo = others Logo (λ s p. (refl, refl)) (λ e. no (cc), λ e. no (cc), λ e. no (cc))
table-of MemCnfg = others MemCnfg (λ s p. (refl, refl)) (λ e. no (cc), λ e. no (cc), λ e. no (cc))
table-of MacInfo = others MacInfo (λ s p. (refl, refl)) (λ e. no (cc), λ e. no (cc), λ e. no (cc))
table-of UCode = others UCode (λ s p. (refl, refl)) (λ e. no (cc), λ e. no (cc), λ e. no (cc))
table-of Video = others Video (λ s p. (refl, refl)) (λ e. no (cc), λ e. no (cc), λ e. no (cc))
table-of Other = others Other (λ s p. (refl, refl)) (λ e. no (cc), λ e. no (cc), λ e. no (cc))
