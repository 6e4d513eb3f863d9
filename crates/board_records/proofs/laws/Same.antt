-- Two images that agree up to place b: what rules 30, 34, 32 and 33 say of a record that lies before b is the same. Assumes nothing.
use Rattle.std.specs.Prelude.{ℕ, ◌+◌, ◌*◌, ◌≤◌, Bool, true, false, not, cond, List, [], ◌∷◌, ◌≡◌, refl, eqb, ltb, leb, None}
use Rattle.std.proofs.Math.Path.{ap}
use Rattle.std.proofs.Common.{◌∙◌, arith, leb-true}
use Rattle.board_layout.specs.Layout.{end_at}
use Rattle.board_layout.specs.Places.{BlkLength, MapData, MapLabel, MapLength, MapOffset, Address, map_record_size, GpioLabel, GpioLength, DataSize, GpioDataType, gpio_record_size}
use Rattle.board_layout.specs.declared.Records.{Records}
use Rattle.board_records.specs.Records.{map_number, bad_map_record, earlier, same_label, repeated_label, data_size_fits, bad_gpio_record, field_used, record_from, record_to, record_used}
use Rattle.chain.specs.Chain.{ahead}
use Rattle.chain.specs.First.{checks, when}
use Rattle.chain.proofs.laws.First.{first-agree}
use Rattle.chain.proofs.laws.Places.{chain-all}
use Rattle.chain.proofs.laws.Steps.{ahead-grows}
use Rattle.octets.specs.Runs.{nonzero}
use Rattle.octets.proofs.laws.Same.{Same, le32-same, same-run-same, nonzero-same, label-same}

module _ (s t : List ℕ) (b : ℕ) (same : Same s t 0 b) where
  -- rule 30 at the record at r of the map at m
  pub bad-map-record-same : (m r : ℕ) → m + BlkLength + 4 ≤ b → r + map_record_size ≤ b → bad_map_record s m r ≡ bad_map_record t m r
  unfolding bad_map_record
  bad-map-record-same m r h k i =
      checks
      (label-same s t 0 b same (r + MapLabel) (omega arith) (omega arith) i
      ∷ when (not (eqb (le32-same s t 0 b same (r + MapLength) (omega arith) (omega arith) i) map_record_size)) (r + MapLength)
      ∷ when
      (not (eqb (le32-same s t 0 b same (r + MapOffset) (omega arith) (omega arith) i)
      (map_number m r * le32-same s t 0 b same (m + BlkLength) (omega arith) (omega arith) i))) (r + MapOffset)
      ∷ when (ltb 0x7F (same (r + Address) (omega arith) (omega arith) i)) (r + Address)
      ∷ [])

  -- rule 34 at that record: the earlier ones lie before it
  pub repeated-label-same : (m r : ℕ) → r + map_record_size ≤ b → repeated_label s m r ≡ repeated_label t m r
  unfolding repeated_label
  repeated-label-same m r h =
      first-agree (λ e. when (same_label s e r) (r + MapLabel)) (λ e. when (same_label t e r) (r + MapLabel)) (earlier m r)
      (chain-all (ahead map_record_size) r (ahead-grows map_record_size (omega arith)) (λ e. when (same_label s e r) (r + MapLabel) ≡ when (same_label t e r) (r + MapLabel)) (m + MapData)
      (λ e _ k.
      ap (λ (same : Bool). when same (r + MapLabel))
      (same-run-same s t 0 b same (e + MapLabel) (omega arith) (r + MapLabel) 16 (omega arith) (omega arith) (omega arith))))

  -- rule 33 at the GPIO record at r
  pub bad-gpio-record-same : (r : ℕ) → r + gpio_record_size ≤ b → bad_gpio_record s r ≡ bad_gpio_record t r
  unfolding bad_gpio_record
  bad-gpio-record-same r h i =
      checks
      (label-same s t 0 b same (r + GpioLabel) (omega arith) (omega arith) i
      ∷ when (not (eqb (le32-same s t 0 b same (r + GpioLength) (omega arith) (omega arith) i) gpio_record_size)) (r + GpioLength)
      ∷ when (not (data_size_fits (same (r + DataSize) (omega arith) (omega arith) i))) (r + DataSize)
      ∷ when (ltb 4 (same (r + GpioDataType) (omega arith) (omega arith) i)) (r + GpioDataType)
      ∷ [])

  -- rule 32 at a reserved field of a structure that ends by b: one not wholly within it is not read
  pub field-used-same : (from to end p : ℕ) → end ≤ b → field_used s from to end p ≡ field_used t from to end p
  field-used-same from to end p h = go (leb (p + to) end) refl
    where
      go : (inside : Bool) → leb (p + to) end ≡ inside → cond inside (nonzero s p from to) None ≡ cond inside (nonzero t p from to) None
      go true e = nonzero-same s t 0 b same p (omega arith) from to (omega (arith, h, leb-true (p + to) end e))
      go false e = refl

  -- and at that of a record
  pub record-used-same : (which : Records) (p r : ℕ) → end_at s p ≡ end_at t p → end_at s p ≤ b → record_used which s p r ≡ record_used which t p r
  record-used-same which p r e h =
      field-used-same (record_from which) (record_to which) (end_at s p) r h
      ∙ ap (λ (end : ℕ). field_used t (record_from which) (record_to which) end r) e
