-- What is shown of a known structure and of a record is, under each label of its table, the number or the bytes at that row. (So no field is left out, none is
-- taken from another row, and no two labels are exchanged.) Assumes nothing.
use Rattle.std.specs.Prelude.{ℕ, Bool, true, false, cond, List, ◌≡◌, refl, None}
use Rattle.std.proofs.lemmas.Bool.{false≢true}
use Rattle.std.proofs.Common.{ap, ◌∙◌, arith}
use Rattle.std.proofs.Math.Numerals.{unary_clauses}
use Rattle.board_layout.specs.Layout.{shape_at}
use Rattle.board_layout.specs.Shapes.{knows}
use Rattle.board_layout.specs.declared.Records.TheVariants.{Map, Gpio}
use Rattle.board_layout.specs.declared.Shape.{Shape}
use Rattle.board_layout.specs.declared.Shape.TheVariants.{Eeprom, EeprMap, BrdInfo, PromSig, AcpiTbl, FpgaNfo, GpioDat, HdCodec, Logo, MemCnfg, MacInfo, UCode, Video, Other}
use Rattle.board.specs.Items.{rest_at, eeprom_at, eepr_map_at, brd_info_at, prom_sig_fields_at, fpga_nfo_at, mem_cnfg_at, mac_info_at, item_as, item_at}
use Rattle.board.specs.Records.{map_record_at, gpio_record_at}
use Rattle.board.specs.Shown.{structure_shown, record_shown}
use Rattle.board.specs.Values.{map_record_values, gpio_record_values, FieldValues, fields, not_known, item_fields}
use Rattle.chain.specs.Fill.{tab}
use Rattle.kinds.specs.declared.Kinds.{Kinds}
use Rattle.octets.specs.Bytes.{le16, le32}
use Rattle.octets.specs.Rows.{Field}

pub structure-rows : (k : Kinds) (s : List ℕ) (p : ℕ) (a : Shape) → knows k a ≡ true → item_fields (item_as s p a) ≡ fields (structure_shown s p a)
unfolding rest_at eeprom_at eepr_map_at brd_info_at prom_sig_fields_at fpga_nfo_at mem_cnfg_at mac_info_at le16 le32 tab
structure-rows k s p Eeprom h = refl
structure-rows k s p EeprMap h = simp unary_clauses refl
structure-rows k s p BrdInfo h = simp unary_clauses refl
structure-rows k s p PromSig h = refl
structure-rows k s p AcpiTbl h = refl
structure-rows k s p FpgaNfo h = simp unary_clauses refl
structure-rows k s p GpioDat h = refl
structure-rows k s p HdCodec h = refl
structure-rows k s p Logo h = refl
structure-rows k s p MemCnfg h = refl
structure-rows k s p MacInfo h = refl
structure-rows k s p UCode h = refl
structure-rows k s p Video h = refl
structure-rows k s p Other h = absurd (false≢true h)

pub map-record-rows : (s : List ℕ) (r : ℕ) → map_record_values (map_record_at s r) ≡ record_shown Map s r
unfolding map_record_at le32 tab
map-record-rows s r = simp unary_clauses refl

pub gpio-record-rows : (s : List ℕ) (r : ℕ) → gpio_record_values (gpio_record_at s r) ≡ record_shown Gpio s r
unfolding gpio_record_at le32 tab
gpio-record-rows s r = simp unary_clauses refl

-- some fields are not none
pub shown-unknown : (l : List Field) → fields l ≡ not_known → ⊥
shown-unknown l e = let z : ◌≡◌ {A = ℕ} 0 1 = ap (λ (x : FieldValues). elim x [ fields y ↦ 0 | not_known ↦ 1 ]) e in omega arith

-- the item at p, where the list knows it
pub known-rows : (k : Kinds) (s : List ℕ) (p : ℕ) → knows k (shape_at s p) ≡ true → item_fields (item_at k s p).item ≡ fields (structure_shown s p (shape_at s p))
unfolding item_at
known-rows k s p h =
    ap (λ (b : Bool). item_fields (cond b (item_as s p (shape_at s p)) None)) h ∙ structure-rows k s p (shape_at s p) h

-- and where it does not
pub unknown-rows : (k : Kinds) (s : List ℕ) (p : ℕ) → knows k (shape_at s p) ≡ false → item_fields (item_at k s p).item ≡ not_known
unfolding item_at
unknown-rows k s p h = ap (λ (b : Bool). item_fields (cond b (item_as s p (shape_at s p)) None)) h
