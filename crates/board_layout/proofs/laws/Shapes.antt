-- When a structure is known, in the paper's words; and that a longer list knows no fewer. Assumes nothing.
use Rattle.std.specs.Prelude.{ℕ, Bool, true, cond, ◌&&◌, ◌||◌, ◌≡◌, refl}
use Rattle.std.proofs.Math.Bool.{false, and-true, and-false}
use Rattle.std.proofs.Common.{sym, ◌∙◌}
use Rattle.std.proofs.Math.Path.{ap}
use Rattle.std.proofs.Math.Dec.{eqb}
use Rattle.board_layout.specs.Shapes.{listed_shape, shape_of, knows, on_every_list}
use Rattle.board_layout.specs.declared.Shape.{Shape}
use Rattle.board_layout.specs.declared.Shape.TheVariants.{Eeprom, EeprMap, BrdInfo, PromSig, AcpiTbl, FpgaNfo, GpioDat, HdCodec, Logo, MemCnfg, MacInfo, UCode, Video, Other}
use Rattle.kinds.specs.Kinds.{Contains, listed}
use Rattle.kinds.specs.Signatures.{eeprom, eepr_map, brd_info, prom_sig, acpi_tbl, fpga_nfo, gpio_dat, hd_codec, logo, mem_cnfg, mac_info, u_code, video}
use Rattle.kinds.specs.declared.Kind.TheVariants.{Signature}
use Rattle.kinds.specs.declared.Kinds.{Kinds}

module _ (k : Kinds) where
  -- the four are known; any other structure is if its table is
  four-known : (a b c d : Bool) (other : Shape)
      → knows k (cond a Eeprom (cond b EeprMap (cond c BrdInfo (cond d PromSig other)))) ≡ ((a || b || c || d) || knows k other)
  four-known true b c d other = refl
  four-known false true c d other = refl
  four-known false false true d other = refl
  four-known false false false true other = refl
  four-known false false false false other = refl

  -- one row of the nine: its mark, or what is said of the later rows
  row : (t : Bool) (a b : Shape) (later : Bool) → knows k b ≡ later → knows k (cond t a b) ≡ cond t (knows k a) later
  row true a b later e = refl
  row false a b later e = e

  -- one of the nine is known, VerMajor aside, if it is on the list
  listed-known : (g : ℕ) → knows k (listed_shape g) ≡ listed k (Signature g)
  unfolding listed_shape listed
  listed-known g =
      row (eqb g acpi_tbl) AcpiTbl _ _
      (row (eqb g fpga_nfo) FpgaNfo _ _
      (row (eqb g gpio_dat) GpioDat _ _
      (row (eqb g hd_codec) HdCodec _ _
      (row (eqb g logo) Logo _ _
      (row (eqb g mem_cnfg) MemCnfg _ _
      (row (eqb g mac_info) MacInfo _ _
      (row (eqb g u_code) UCode _ _
      (row (eqb g video) Video Other false refl))))))))

  major-known : (t : Bool) (a : Shape) → knows k (cond t a Other) ≡ (knows k a && t)
  major-known true a = sym (and-true (knows k a))
  major-known false a = sym (and-false (knows k a))

  -- a structure is known if it is one of the four, or on the list and of VerMajor 1
  pub known-exactly : (g m : ℕ) → knows k (shape_of g m) ≡ (on_every_list g || (listed k (Signature g) && eqb m 1))
  unfolding shape_of
  known-exactly g m =
      four-known (eqb g eeprom) (eqb g eepr_map) (eqb g brd_info) (eqb g prom_sig) (cond (eqb m 1) (listed_shape g) Other)
      ∙ ap (λ (b : Bool). on_every_list g || b) (major-known (eqb m 1) (listed_shape g) ∙ ap (λ (b : Bool). b && eqb m 1) (listed-known g))

-- what the shorter list knows, the longer knows
pub knows-less : (longer shorter : Kinds) → Contains longer shorter → (a : Shape) → knows shorter a ≡ true → knows longer a ≡ true
unfolding listed
knows-less longer shorter c Eeprom e = e
knows-less longer shorter c EeprMap e = e
knows-less longer shorter c BrdInfo e = e
knows-less longer shorter c PromSig e = e
knows-less longer shorter c AcpiTbl e = c.keeps (Signature acpi_tbl) e
knows-less longer shorter c FpgaNfo e = c.keeps (Signature fpga_nfo) e
knows-less longer shorter c GpioDat e = c.keeps (Signature gpio_dat) e
knows-less longer shorter c HdCodec e = c.keeps (Signature hd_codec) e
knows-less longer shorter c Logo e = c.keeps (Signature logo) e
knows-less longer shorter c MemCnfg e = c.keeps (Signature mem_cnfg) e
knows-less longer shorter c MacInfo e = c.keeps (Signature mac_info) e
knows-less longer shorter c UCode e = c.keeps (Signature u_code) e
knows-less longer shorter c Video e = c.keeps (Signature video) e
knows-less longer shorter c Other e = e
