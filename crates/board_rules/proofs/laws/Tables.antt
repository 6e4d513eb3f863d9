-- In an accepted image each known structure holds all fields of its table, up to the reserved one, and known GPIO data are whole records: of header, map and
-- board by rules 21, 25 and 26, of the later ones by rule 33. Assumes nothing.
use Prim.Native.Nat.{ℕ, ◌+◌, ◌-◌, ◌%◌, ◌≤◌}
use Rattle.std.specs.Prelude.{Bool, true, false, not, cond, ◌||◌, ◌≡◌, refl, eqb, ltb, Some, None, Ok}
use Rattle.std.proofs.lemmas.Bool.{false≢true}
use mathlib.Core.List.{List, [], ◌∷◌}
use Rattle.std.proofs.Common.{sym, arith, ltb-false}
use Rattle.std.proofs.Math.Path.{subst}
use Rattle.board_fields.specs.Inside.{bad_gpio, bad_fields, bad_inside}
use Rattle.board_layout.specs.Layout.{signature_at, major_at, length_at, shape_at, struct_len, end_at, next, structures, map_at, board_at, later_at, records, record_size, data_offset}
use Rattle.board_layout.specs.Places.{GpioData, gpio_record_size}
use Rattle.board_layout.specs.Shapes.{reserved_to, listed_shape, shape_of, knows, fixed_part, reserved_from}
use Rattle.board_layout.specs.declared.Records.TheVariants.{Gpio}
use Rattle.board_layout.specs.declared.Shape.{Shape}
use Rattle.board_layout.specs.declared.Shape.TheVariants.{GpioDat}
use Rattle.board_layout.proofs.laws.Tables.{reserved-row}
use Rattle.board_layout.proofs.laws.Records.{records-fit}
use Rattle.board_rules.specs.Judged.{judged}
use Rattle.board_rules.specs.Rules.{expected, is_early, out_of_order, rule25}
use Rattle.board_rules.proofs.laws.Accepted.{accepted-clear, header-is, header-length, structures-are, map-second, board-third, map-head, record-bounds, board-head}
use Rattle.chain.proofs.laws.Checks.{checks-none, kept-equal}
use Rattle.board_rules.proofs.laws.Fields.{inside-good}
use Rattle.chain.specs.All.{All}
use Rattle.chain.specs.Chain.{chain}
use Rattle.chain.specs.First.{first, when}
use Rattle.chain.proofs.laws.All.{all-map, all-both}
use Rattle.chain.proofs.laws.First.{at-nothing, first-all, when-nothing, or_else-left}
use Rattle.kinds.specs.Signatures.{eeprom, eepr_map, brd_info, prom_sig, acpi_tbl, fpga_nfo, gpio_dat, hd_codec, logo, mem_cnfg, mac_info, u_code, video}
use Rattle.kinds.specs.declared.Kinds.{Kinds}

-- ---- the tables: where their rows Reserved end
-- what holds of both answers of a test, of the first where the test holds
either : (P : Shape → Type 0) (b : Bool) {x y : Shape} → (b ≡ true → P x) → P y → P (cond b x y)
either P true h k = h refl
either P false h k = k

-- of a structure that is none of the three first ones, by its fixed part. (Of those three, later: so a table that has this is none of theirs.)
pub later-rows : (g major : ℕ) → is_early g ≡ false → reserved_to (shape_of g major) ≤ fixed_part (shape_of g major)
unfolding shape_of listed_shape
later-rows g major a =
    either P (eqb g eeprom) (λ e. absurd ((none (eqb g eepr_map) (eqb g brd_info) (eqb g eeprom) a).2 e))
    (either P (eqb g eepr_map) (λ e. absurd ((none (eqb g eepr_map) (eqb g brd_info) (eqb g eeprom) a).0 e))
    (either P (eqb g brd_info) (λ e. absurd ((none (eqb g eepr_map) (eqb g brd_info) (eqb g eeprom) a).1 e))
    (either P (eqb g prom_sig) (λ _. omega arith)
    (either P (eqb major 1) (λ _.
    either P (eqb g acpi_tbl) (λ _. omega arith)
    (either P (eqb g fpga_nfo) (λ _. omega arith)
    (either P (eqb g gpio_dat) (λ _. omega arith)
    (either P (eqb g hd_codec) (λ _. omega arith)
    (either P (eqb g logo) (λ _. omega arith)
    (either P (eqb g mem_cnfg) (λ _. omega arith)
    (either P (eqb g mac_info) (λ _. omega arith)
    (either P (eqb g u_code) (λ _. omega arith)
    (either P (eqb g video) (λ _. omega arith) (omega arith))))))))))
    (omega arith)))))
  where
    P : Shape → Type 0
    P x = reserved_to x ≤ fixed_part x

    none : (a b c : Bool) → a || b || c ≡ false → (a ≡ true → ⊥) × (b ≡ true → ⊥) × (c ≡ true → ⊥)
    none false false false e = (λ h. false≢true h, λ h. false≢true h, λ h. false≢true h)
    none false false true e = absurd (false≢true (sym e))
    none false true c e = absurd (false≢true (sym e))
    none true b c e = absurd (false≢true (sym e))

-- ---- rule 33 at a structure
-- it is not broken: the fixed part is there, and the fields are good
pub inside-kept : (s : List ℕ) (p : ℕ) (a : Shape) → bad_inside s p a ≡ None → (fixed_part a ≤ length_at s p) × (bad_fields s p a ≡ None)
unfolding bad_inside
inside-kept s p a e = go (ltb (length_at s p) (fixed_part a)) refl e
  where
    go : (b : Bool) → ltb (length_at s p) (fixed_part a) ≡ b → cond b (Some p) (bad_fields s p a) ≡ None
        → (fixed_part a ≤ length_at s p) × (bad_fields s p a ≡ None)
    go true d c = absurd (at-nothing c)
    go false d c = (ltb-false (length_at s p) (fixed_part a) d, c)

module _ (k : Kinds) (s : List ℕ) where
  -- a known structure breaks rule 33 nowhere
  abbrev Inside : ℕ → Type 0
  Inside p = knows k (shape_at s p) ≡ true → bad_inside s p (shape_at s p) ≡ None

  -- the fields of a known structure lie within its Length
  abbrev pub Holds : ℕ → Type 0
  Holds p = knows k (shape_at s p) ≡ true → reserved_from (shape_at s p) ≤ length_at s p

  -- the records of known GPIO data lie whole within its Length
  abbrev pub Whole : ℕ → Type 0
  Whole p =
      knows k (shape_at s p) ≡ true → shape_at s p ≡ GpioDat → All (λ r. (p + data_offset Gpio ≤ r) × (r + record_size Gpio ≤ end_at s p)) (records Gpio s p)

-- ---- in an accepted image
module _ (k : Kinds) (s : List ℕ) (n : ℕ) (e : judged k s ≡ Ok n) where
  -- the first three, by their signatures
  header-holds : Holds k s 0
  unfolding shape_at shape_of
  header-holds h = rw (header-is k s n e).0 (header-length k s n e).0

  map-holds : Holds k s (map_at s)
  unfolding shape_at shape_of
  map-holds h = rw (map-second k s n e).1 (omega (arith, (map-head k s n e).1, (record-bounds k s n e).0))

  board-holds : Holds k s (board_at s)
  unfolding shape_at shape_of
  board-holds h = rw (board-third k s n e).1 (omega (arith, (board-head k s n e).1))

  -- a later one
  later-holds : (p : ℕ) → out_of_order s p ≡ None → Inside k s p → Holds k s p
  unfolding out_of_order shape_at
  later-holds p o i h =
      let g : ℕ = signature_at s p in
      let w = later-rows g (major_at s p) (when-nothing (is_early g) p (or_else-left (when (is_early g) p) _ o)) in
      omega (arith, w, (reserved-row (shape_of g (major_at s p))).1, (inside-kept s p (shape_of g (major_at s p)) (i h)).0)

  -- so each does
  pub fields-hold : All (Holds k s) (structures s)
  unfolding rule25
  fields-hold =
      let later : List ℕ = chain (next s) (struct_len s) (later_at s) in
      let order = checks-none (expected s eepr_map (map_at s) ∷ expected s brd_info (board_at s) ∷ first (out_of_order s) later ∷ [])
      (accepted-clear k s n e).1.1.1.1.1.0 in
      let inside = subst (All (Inside k s)) (structures-are k s n e) (inside-good k s n e) in
      subst (All (Holds k s)) (sym (structures-are k s n e)) (
        header-holds,
        (
          map-holds,
          (
            board-holds,
            all-both (λ p. out_of_order s p ≡ None) (Inside k s) (Holds k s) later-holds later (first-all (out_of_order s) later order.1.1.0)
                inside.1.1.1,
          ),
        ),
      )

  -- ---- and the records of known GPIO data are whole
  whole : (p : ℕ) → Inside k s p → Whole k s p
  unfolding bad_gpio
  whole p i h g =
      let t = inside-kept s p GpioDat (subst (λ (a : Shape). bad_inside s p a ≡ None) g (i h)) in
      let d : (length_at s p - GpioData) % gpio_record_size ≡ 0 = kept-equal ((length_at s p - GpioData) % gpio_record_size) 0 p
      (or_else-left (when (not (eqb ((length_at s p - GpioData) % gpio_record_size) 0)) p) _ t.1) in
      records-fit Gpio s p t.0 d

  pub gpio-whole : All (Whole k s) (structures s)
  gpio-whole = all-map (Inside k s) (Whole k s) whole (structures s) (inside-good k s n e)
