-- Two images that agree up to place b: what rules 26 and 29 to 34 say of a structure that lies before b is the same. A head is read whole; of what follows
-- it only what lies within the structure's Length. Assumes nothing.
use Rattle.std.specs.Prelude.{ℕ, ◌+◌, ◌-◌, ◌*◌, ◌/◌, ◌%◌, ◌≤◌, Bool, not, List, [], ◌∷◌, ◌≡◌, eqb, Some, None}
use Rattle.std.proofs.Math.Bool.{true, false, cond}
use Rattle.std.proofs.Math.Path.{refl, ap, ap₂}
use Rattle.std.proofs.Common.{◌∙◌, arith}
use Rattle.std.proofs.Math.Dec.{ltb}
use borrow.Author.Tests.{eqb-true, ltb-false, not-false}
use Rattle.board_fields.specs.Hash.{bad_hash_of, bad_hash}
use Rattle.board_fields.specs.Heads.{map_length_fits, bad_map_head, bad_board_head, bad_prom_sig_head}
use Rattle.board_fields.specs.Inside.{bad_gpio, bad_fpga, bad_fields, bad_inside}
use Rattle.board_fields.specs.Map.{bad_map_field, bad_map, bad_board_type}
use Rattle.board_fields.specs.Reserved.{records_used, reserved_used}
use Rattle.board_layout.specs.Layout.{length_at, struct_len, end_at, records}
use Rattle.board_layout.specs.Places.{head_size, PartLabel, BlkLength, PartSize, Master, Speed, MapData, map_record_size, BoardType, FpgaDataType, GpioData, gpio_record_size, HashType, EepromSig}
use Rattle.board_layout.specs.Shapes.{fixed_part, reserved_from, reserved_to}
use Rattle.board_layout.specs.declared.Records.{Records}
use Rattle.board_layout.specs.declared.Records.TheVariants.{Map, Gpio}
use Rattle.board_layout.specs.declared.Shape.{Shape}
use Rattle.board_layout.specs.declared.Shape.TheVariants.{Eeprom, EeprMap, BrdInfo, PromSig, AcpiTbl, FpgaNfo, GpioDat, HdCodec, Logo, MemCnfg, MacInfo, UCode, Video, Other}
use Rattle.board_layout.proofs.laws.Records.{records-fit}
use Rattle.board_layout.proofs.laws.Same.{major-same, minor-same, length-same, end-same, records-same}
use Rattle.board_records.specs.Records.{bad_map_record, repeated_label, bad_gpio_record, field_used, record_used}
use Rattle.board_records.proofs.laws.Same.{bad-map-record-same, repeated-label-same, bad-gpio-record-same, field-used-same, record-used-same}
use Rattle.chain.specs.All.{All}
use Rattle.chain.specs.First.{checks, first, or_else, when}
use Rattle.chain.specs.Found.{Found}
use Rattle.chain.proofs.laws.All.{all-of, all-map}
use Rattle.chain.proofs.laws.First.{or_else-agree, first-agree, when-nothing}
use Rattle.octets.proofs.laws.Same.{Same, same-part, le16-same, le32-same, label-same}

module _ (s t : List ℕ) (b : ℕ) (same : Same s t 0 b) (p : ℕ) (room : p + head_size ≤ b) where
  head : Same s t p (p + head_size)
  head = same-part s t 0 b p (p + head_size) (omega arith) room same

  -- ---- rule 26 reads the head
  pub bad-map-head-same : bad_map_head s p ≡ bad_map_head t p
  unfolding bad_map_head
  bad-map-head-same i =
      checks (when (not (eqb (major-same s t p head i) 1)) p ∷ when (not (map_length_fits (length-same s t p head i))) p ∷ [])

  pub bad-board-head-same : bad_board_head s p ≡ bad_board_head t p
  unfolding bad_board_head
  bad-board-head-same i =
      checks (when (not (eqb (major-same s t p head i) 1)) p ∷ when (not (eqb (length-same s t p head i) 0x60)) p ∷ [])

  pub bad-prom-sig-head-same : bad_prom_sig_head s p ≡ bad_prom_sig_head t p
  unfolding bad_prom_sig_head
  bad-prom-sig-head-same i =
      checks (when (not (eqb (major-same s t p head i) 1)) p ∷ when (ltb (length-same s t p head i) EepromSig) p ∷ [])

  -- ---- a structure that ends by b
  module _ (ends : end_at s p ≤ b) where
    -- a rule along its records: two tests that agree at each of them find the same
    along-same : (which : Records) (f g : ℕ → Found) → All (λ r. f r ≡ g r) (records which s p) → first f (records which s p) ≡ first g (records which t p)
    along-same which f g a = first-agree f g (records which s p) a ∙ ap (first g) (records-same s t p head which)

    -- rule 29
    pub bad-hash-same : EepromSig ≤ length_at s p → bad_hash s p ≡ bad_hash t p
    unfolding bad_hash end_at
    bad-hash-same h i =
        bad_hash_of (le16-same s t 0 b same (p + HashType) (omega arith) (omega arith) i) (length-same s t p head i) (p + HashType)

    -- rule 30, where the map's Length is that of whole records
    map-field-same : struct_len s ≡ struct_len t → MapData ≤ length_at s p → bad_map_field s p ≡ bad_map_field t p
    unfolding bad_map_field end_at
    map-field-same e h i =
        checks
        (label-same s t 0 b same (p + PartLabel) (omega arith) (omega arith) i
        ∷ when (eqb (le32-same s t 0 b same (p + BlkLength) (omega arith) (omega arith) i) 0) (p + BlkLength)
        ∷ when
        (not (eqb (le32-same s t 0 b same (p + PartSize) (omega arith) (omega arith) i)
        ((length-same s t p head i - MapData) / map_record_size * le32-same s t 0 b same (p + BlkLength) (omega arith) (omega arith) i))) (p + PartSize)
        ∷ when (ltb (le32-same s t 0 b same (p + PartSize) (omega arith) (omega arith) i) (e i)) (p + PartSize)
        ∷ when (ltb 1 (same (p + Master) (omega arith) (omega arith) i)) (p + Master)
        ∷ when (ltb 3 (same (p + Speed) (omega arith) (omega arith) i)) (p + Speed)
        ∷ [])

    -- a rule along its records: two tests that agree at each record before b find the same
    map-records-same : MapData ≤ length_at s p → (length_at s p - MapData) % map_record_size ≡ 0
        → (f g : ℕ → Found) → ((r : ℕ) → r + map_record_size ≤ b → f r ≡ g r) → first f (records Map s p) ≡ first g (records Map t p)
    map-records-same h whole f g agree =
        along-same Map f g
        (all-map (λ r. (p + MapData ≤ r) × (r + map_record_size ≤ end_at s p)) (λ r. f r ≡ g r) (λ r w. agree r (omega (arith, w.1))) (records Map s p)
        (records-fit Map s p h whole))

    pub bad-map-same : struct_len s ≡ struct_len t → MapData ≤ length_at s p → (length_at s p - MapData) % map_record_size ≡ 0 → bad_map s p ≡ bad_map t p
    unfolding bad_map end_at
    bad-map-same e h whole =
        ap₂ or_else (map-field-same e h)
        (map-records-same h whole (bad_map_record s p) (bad_map_record t p) (λ r k. bad-map-record-same s t b same p r (omega arith) k))

    -- rule 34
    pub repeated-labels-same : MapData ≤ length_at s p → (length_at s p - MapData) % map_record_size ≡ 0
        → first (repeated_label s p) (records Map s p) ≡ first (repeated_label t p) (records Map t p)
    repeated-labels-same h whole = map-records-same h whole (repeated_label s p) (repeated_label t p) (repeated-label-same s t b same p)

    -- rule 31
    pub bad-board-type-same : reserved_from BrdInfo ≤ length_at s p → bad_board_type s p ≡ bad_board_type t p
    unfolding bad_board_type end_at
    bad-board-type-same h = ap (λ (x : ℕ). when (ltb 1 x) (p + BoardType)) (same (p + BoardType) (omega arith) (omega arith))

    -- ---- rule 32
    records-used : (which : Records) → first (record_used which s p) (records which s p) ≡ first (record_used which t p) (records which t p)
    records-used which =
        along-same which (record_used which s p) (record_used which t p)
        (all-of (λ r. record_used which s p r ≡ record_used which t p r)
        (λ r. record-used-same s t b same which p r (end-same s t p head) ends) (records which s p))

    records-used-same : (a : Shape) → records_used s p a ≡ records_used t p a
    records-used-same Eeprom = refl
    records-used-same EeprMap = records-used Map
    records-used-same BrdInfo = refl
    records-used-same PromSig = refl
    records-used-same AcpiTbl = refl
    records-used-same FpgaNfo = refl
    records-used-same GpioDat = records-used Gpio
    records-used-same HdCodec = refl
    records-used-same Logo = refl
    records-used-same MemCnfg = refl
    records-used-same MacInfo = refl
    records-used-same UCode = refl
    records-used-same Video = refl
    records-used-same Other = refl

    own-used-same : (a : Shape) → field_used s (reserved_from a) (reserved_to a) (end_at s p) p ≡ field_used t (reserved_from a) (reserved_to a) (end_at t p) p
    own-used-same a =
        field-used-same s t b same (reserved_from a) (reserved_to a) (end_at s p) p ends
        ∙ ap (λ (end : ℕ). field_used t (reserved_from a) (reserved_to a) end p) (end-same s t p head)

    pub reserved-used-same : (a : Shape) → reserved_used s p a ≡ reserved_used t p a
    unfolding reserved_used
    reserved-used-same a i =
        cond (eqb (minor-same s t p head i) 0) (or_else (own-used-same a i) (records-used-same a i)) None

    -- ---- rule 33, which reads on only where the fixed part is there
    bad-fpga-same : fixed_part FpgaNfo ≤ length_at s p → bad_fpga s p ≡ bad_fpga t p
    unfolding bad_fpga end_at
    bad-fpga-same h = ap (λ (x : ℕ). when (ltb 4 x) (p + FpgaDataType)) (same (p + FpgaDataType) (omega arith) (omega arith))

    -- and into the records only where they are whole
    bad-gpio-same : fixed_part GpioDat ≤ length_at s p → bad_gpio s p ≡ bad_gpio t p
    unfolding bad_gpio
    bad-gpio-same h =
        or_else-agree (ap (λ (n : ℕ). when (not (eqb ((n - GpioData) % gpio_record_size) 0)) p) (length-same s t p head))
        (λ e.
        let whole : (length_at s p - GpioData) % gpio_record_size ≡ 0 = eqb-true ((length_at s p - GpioData) % gpio_record_size) 0
        (not-false (eqb ((length_at s p - GpioData) % gpio_record_size) 0) (when-nothing (not (eqb ((length_at s p - GpioData) % gpio_record_size) 0)) p e)) in
        along-same Gpio (bad_gpio_record s) (bad_gpio_record t)
        (all-map (λ r. (p + GpioData ≤ r) × (r + gpio_record_size ≤ end_at s p)) (λ r. bad_gpio_record s r ≡ bad_gpio_record t r)
        (λ r w. bad-gpio-record-same s t b same r (omega (arith, w.1, ends))) (records Gpio s p) (records-fit Gpio s p h whole)))

    bad-fields-same : (a : Shape) → fixed_part a ≤ length_at s p → bad_fields s p a ≡ bad_fields t p a
    bad-fields-same Eeprom h = refl
    bad-fields-same EeprMap h = refl
    bad-fields-same BrdInfo h = refl
    bad-fields-same PromSig h = refl
    bad-fields-same AcpiTbl h = refl
    bad-fields-same FpgaNfo h = bad-fpga-same h
    bad-fields-same GpioDat h = bad-gpio-same h
    bad-fields-same HdCodec h = refl
    bad-fields-same Logo h = refl
    bad-fields-same MemCnfg h = refl
    bad-fields-same MacInfo h = refl
    bad-fields-same UCode h = refl
    bad-fields-same Video h = refl
    bad-fields-same Other h = refl

    pub bad-inside-same : (a : Shape) → bad_inside s p a ≡ bad_inside t p a
    unfolding bad_inside
    bad-inside-same a =
        go (ltb (length_at s p) (fixed_part a)) refl
        ∙ ap (λ (n : ℕ). cond (ltb n (fixed_part a)) (Some p) (bad_fields t p a)) (length-same s t p head)
      where
        go : (under : Bool) → ltb (length_at s p) (fixed_part a) ≡ under → cond under (Some p) (bad_fields s p a) ≡ cond under (Some p) (bad_fields t p a)
        go true e = refl
        go false e = bad-fields-same a (ltb-false (length_at s p) (fixed_part a) e)
