-- In an accepted image the reserved row of a known structure lies within its Length or starts where that ends, only the first structure is a `$Eeprom$`, and
-- only the second a `$EeprMap`.
-- With VerMinor 0 the reserved bytes of a known structure and of its records are zero. Assumes nothing.
use Prim.Native.Nat.{ℕ, ◌+◌, ◌-◌, ◌≤◌, ◌<◌}
use Rattle.std.specs.Prelude.{Bool, true, cond, ◌⊎◌, ◌≡◌, refl, Some, None, Ok}
use mathlib.Core.List.{List, [], ◌∷◌}
use Rattle.std.proofs.Math.Logic.{inl}
use Rattle.std.proofs.Common.{sym, arith, le-leb, eq-eqb}
use Rattle.std.proofs.Math.Path.{subst}
use Rattle.board_fields.specs.Inside.{bad_inside}
use Rattle.board_fields.specs.Reserved.{records_used, reserved_used}
use Rattle.board_layout.specs.Layout.{signature_at, major_at, minor_at, length_at, shape_at, struct_len, end_at, next, structures, map_at, board_at, later_at, data_offset, record_size, records}
use Rattle.board_layout.specs.Places.{MapData, map_record_size}
use Rattle.board_layout.specs.Shapes.{shape_of, knows, fixed_part, reserved_from, reserved_to, HasRecords}
use Rattle.board_layout.specs.declared.Records.{Records}
use Rattle.board_layout.specs.declared.Records.TheVariants.{Map, Gpio}
use Rattle.board_layout.specs.declared.Shape.{Shape}
use Rattle.board_layout.specs.declared.Shape.TheVariants.{Eeprom, EeprMap, BrdInfo, GpioDat}
use Rattle.board_records.specs.Records.{field_used, record_from, record_to, record_used}
use Rattle.board_rules.specs.Judged.{judged}
use Rattle.board_rules.specs.Rules.{expected, is_early, out_of_order, rule25}
use Rattle.board_rules.proofs.laws.Accepted.{accepted-clear, header-is, header-covers, structures-are, map-second, board-third, map-head, records-fit, board-head}
use Rattle.board_rules.proofs.laws.Fields.{inside-good, reserved-zero}
use Rattle.board_rules.proofs.laws.Tables.{later-rows, inside-kept, Whole, gpio-whole}
use Rattle.chain.specs.All.{All}
use Rattle.chain.specs.Chain.{chain}
use Rattle.chain.specs.First.{first, or_else, when}
use Rattle.chain.specs.Nth.{nth}
use Rattle.chain.specs.Found.{Found}
use Rattle.chain.proofs.laws.All.{all-both}
use Rattle.chain.proofs.laws.Checks.{checks-none}
use Rattle.chain.proofs.laws.First.{first-all, when-nothing, or_else-left, or_else-right}
use Rattle.chain.proofs.laws.Nth.{nth-all}
use Rattle.kinds.specs.Signatures.{eepr_map, brd_info}
use Rattle.kinds.specs.declared.Kinds.{Kinds}
use Rattle.octets.specs.Bytes.{byte}
use Rattle.octets.specs.Runs.{nonzero}
use Rattle.octets.proofs.laws.Runs.{nonzero-none}

-- ---- the structures of an accepted image
pub record Placed (k : Kinds) (s : List ℕ) (p : ℕ) : Type 0 where
  -- the reserved row of a known one lies within its Length, or starts where that ends
  pub row : knows k (shape_at s p) ≡ true → (reserved_to (shape_at s p) ≤ length_at s p) ⊎ (length_at s p ≡ reserved_from (shape_at s p))
  -- only the first is a header, and only the second a map
  pub header : shape_at s p ≡ Eeprom → p ≡ 0
  pub map : shape_at s p ≡ EeprMap → p ≡ map_at s

module _ (k : Kinds) (s : List ℕ) (n : ℕ) (e : judged k s ≡ Ok n) where
  header-placed : Placed k s 0
  unfolding shape_at shape_of
  header-placed =
      record {
        row = λ h. rw (header-is k s n e).0 (header-covers k s n e);
        header = λ h. refl;
        map = λ h. let z : Eeprom ≡ EeprMap = rw (header-is k s n e).0 at h in cc;
      }

  map-placed : Placed k s (map_at s)
  unfolding shape_at shape_of
  map-placed =
      record {
        row = λ h. rw (map-second k s n e).1 (inl (omega (arith, (map-head k s n e).1)));
        header = λ h. let z : EeprMap ≡ Eeprom = rw (map-second k s n e).1 at h in cc;
        map = λ h. refl;
      }

  board-placed : Placed k s (board_at s)
  unfolding shape_at shape_of
  board-placed =
      record {
        row = λ h. rw (board-third k s n e).1 (inl (omega (arith, (board-head k s n e).1)));
        header = λ h. let z : BrdInfo ≡ Eeprom = rw (board-third k s n e).1 at h in cc;
        map = λ h. let z : BrdInfo ≡ EeprMap = rw (board-third k s n e).1 at h in cc;
      }

  -- a later one
  abbrev Inside : ℕ → Type 0
  Inside p = knows k (shape_at s p) ≡ true → bad_inside s p (shape_at s p) ≡ None

  later-placed : (p : ℕ) → out_of_order s p ≡ None → Inside p → Placed k s p
  unfolding out_of_order shape_at
  later-placed p o i =
      let g : ℕ = signature_at s p in
      let w : reserved_to (shape_at s p) ≤ fixed_part (shape_at s p) =
      later-rows g (major_at s p) (when-nothing (is_early g) p (or_else-left (when (is_early g) p) _ o)) in
      record {
        row = λ h. inl (omega (arith, w, (inside-kept s p (shape_at s p) (i h)).0));
        header = λ h. let z : reserved_to Eeprom ≤ fixed_part Eeprom = subst (λ (a : Shape). reserved_to a ≤ fixed_part a) h w in absurd (omega arith);
        map = λ h. let z : reserved_to EeprMap ≤ fixed_part EeprMap = subst (λ (a : Shape). reserved_to a ≤ fixed_part a) h w in absurd (omega arith);
      }

  pub structures-placed : All (Placed k s) (structures s)
  unfolding rule25
  structures-placed =
      let later : List ℕ = chain (next s) (struct_len s) (later_at s) in
      let order = checks-none (expected s eepr_map (map_at s) ∷ expected s brd_info (board_at s) ∷ first (out_of_order s) later ∷ [])
      (accepted-clear k s n e).1.1.1.1.1.0 in
      let inside = subst (All Inside) (structures-are k s n e) (inside-good k s n e) in
      subst (All (Placed k s)) (sym (structures-are k s n e)) (
        header-placed,
        (
          map-placed,
          (
            board-placed,
            all-both (λ p. out_of_order s p ≡ None) Inside (Placed k s) later-placed later (first-all (out_of_order s) later order.1.1.0)
                inside.1.1.1,
          ),
        ),
      )

-- ---- rule 32 at a structure with VerMinor 0
-- a field that is not used is zero
pub field-zero : (s : List ℕ) (from to end p : ℕ) → field_used s from to end p ≡ None → p + to ≤ end → (q : ℕ) → p + from ≤ q → q < p + to → byte s q ≡ 0
field-zero s from to end p e h q a b =
    let d : p + (q - p) ≡ q = omega arith in
    subst (λ (x : ℕ). byte s x ≡ 0) d
    (nonzero-none s p from to (subst (λ (c : Bool). cond c (nonzero s p from to) None ≡ None) (le-leb (p + to) end h) e) (q - p) (omega arith) (omega arith))

-- its own field and its records' are not used
pub unused : (s : List ℕ) (p : ℕ) (a : Shape) → minor_at s p ≡ 0 → reserved_used s p a ≡ None
    → (field_used s (reserved_from a) (reserved_to a) (end_at s p) p ≡ None) × (records_used s p a ≡ None)
unfolding reserved_used
unused s p a h e =
    let own : Found = field_used s (reserved_from a) (reserved_to a) (end_at s p) p in
    let d : or_else own (records_used s p a) ≡ None =
    subst (λ (b : Bool). cond b (or_else own (records_used s p a)) None ≡ None) (eq-eqb (minor_at s p) 0 h) e in
    (or_else-left own (records_used s p a) d, or_else-right own (records_used s p a) d)

-- in an accepted image, at structure i, which is known and starts at p
module _ (k : Kinds) (s : List ℕ) (n : ℕ) (e : judged k s ≡ Ok n) (i p : ℕ) (at : nth (structures s) i ≡ Some p) (on : knows k (shape_at s p) ≡ true) where
  placed : Placed k s p
  placed = nth-all (Placed k s) (structures s) i p (structures-placed k s n e) at

  kept : reserved_used s p (shape_at s p) ≡ None
  kept = nth-all (λ p. knows k (shape_at s p) ≡ true → reserved_used s p (shape_at s p) ≡ None) (structures s) i p (reserved-zero k s n e) at on

  -- its own reserved bytes, where they lie within its Length
  pub row-zero : minor_at s p ≡ 0 → p + reserved_to (shape_at s p) ≤ end_at s p → (q : ℕ) → p + reserved_from (shape_at s p) ≤ q → q < p + reserved_to (shape_at s p) → byte s q ≡ 0
  row-zero h whole = field-zero s (reserved_from (shape_at s p)) (reserved_to (shape_at s p)) (end_at s p) p (unused s p (shape_at s p) h kept).0 whole

  -- its records are whole
  abbrev Fit : Records → ℕ → Type 0
  Fit which r = (p + data_offset which ≤ r) × (r + record_size which ≤ end_at s p)

  records-whole : (which : Records) → HasRecords which (shape_at s p) → All (Fit which) (records which s p)
  records-whole Map is =
      subst (λ (m : ℕ). All (λ r. (m + MapData ≤ r) × (r + map_record_size ≤ end_at s m)) (records Map s m)) (sym (placed.map is)) (records-fit k s n e)
  records-whole Gpio is = nth-all (Whole k s) (structures s) i p (gpio-whole k s n e) at on is

  -- and their reserved bytes
  records-unused : (which : Records) → HasRecords which (shape_at s p) → minor_at s p ≡ 0 → first (record_used which s p) (records which s p) ≡ None
  records-unused Map is h = (unused s p EeprMap h (subst (λ (a : Shape). reserved_used s p a ≡ None) is kept)).1
  records-unused Gpio is h = (unused s p GpioDat h (subst (λ (a : Shape). reserved_used s p a ≡ None) is kept)).1

  record-ends : (which : Records) (r : ℕ) → Fit which r → r + record_to which ≤ end_at s p
  record-ends Map r w = w.1
  record-ends Gpio r w = w.1

  pub record-zero : (which : Records) → HasRecords which (shape_at s p) → minor_at s p ≡ 0 → (j r : ℕ) → nth (records which s p) j ≡ Some r
      → (q : ℕ) → r + record_from which ≤ q → q < r + record_to which → byte s q ≡ 0
  record-zero which is h j r stands =
      field-zero s (record_from which) (record_to which) (end_at s p) r
      (nth-all (λ x. record_used which s p x ≡ None) (records which s p) j r
      (first-all (record_used which s p) (records which s p) (records-unused which is h)) stands)
      (record-ends which r (nth-all (Fit which) (records which s p) j r (records-whole which is) stands))
