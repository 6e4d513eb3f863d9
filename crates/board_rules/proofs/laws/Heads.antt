-- What rules 21, 22 and 26 tell of StructLen and of the heads of header, map, board and `$PromSig`, in numbers: where the map and the board lie, which records
-- the map has, and what Crc32 covers. Assumes nothing.
use Prim.Native.Nat.{ℕ, ◌+◌, ◌-◌, ◌*◌, ◌/◌, ◌%◌, ◌≤◌, ◌<◌}
use Rattle.std.proofs.Math.Bool.{Bool, not, and-eq-true_iff}
use Rattle.std.specs.Prelude.{true, false, ◌&&◌, ◌⊎◌, ◌≡◌, ltb, leb, length, Some, None}
use mathlib.Core.List.{List, [], ◌∷◌}
use Rattle.std.proofs.Common.{inl, inr, sym, subst, ◌∙◌}
use Rattle.std.proofs.Math.Path.{refl, ap}
use native.Mathlib.Omega.{arith}
use Rattle.std.proofs.Math.Dec.{eqb}
use borrow.Author.Tests.{eq-eqb, eqb-true, leb-true, not-false}
use Rattle.board_fields.specs.Heads.{map_length_fits, bad_map_head, bad_board_head, bad_prom_sig_head}
use Rattle.board_layout.specs.Layout.{signature_at, major_at, length_at, struct_len, end_at, round16, next, structures, header_length, map_at, board_at, later_at, records, map_count}
use Rattle.board_layout.specs.Places.{StructLen, MapData, map_record_size, EepromSig}
use Rattle.board_layout.specs.Shapes.{reserved_from, reserved_to}
use Rattle.board_layout.specs.declared.Header.{Header}
use Rattle.board_layout.specs.declared.Header.TheVariants.{Short, Long}
use Rattle.board_layout.specs.declared.Records.TheVariants.{Map}
use Rattle.board_layout.specs.declared.Shape.TheVariants.{Eeprom}
use Rattle.board_layout.proofs.laws.Layout.{next-grows, next-round, next-whole, round-same, header-size, header-row}
use Rattle.board_layout.proofs.laws.Records as layout
use Rattle.board_rules.specs.Rules.{is_header_length, rule21, rule22, rule23, expected, is_early, out_of_order, rule25, prom_sig_at, on_found, rule26, covered_up_to, covered}
use Rattle.board_rules.proofs.laws.Order.{map-second, board-third}
use Rattle.board_rules.proofs.laws.Walk.{prom-sig-fits, structures-are}
use Rattle.chain.specs.All.{All}
use Rattle.chain.specs.Chain.{chain}
use Rattle.chain.specs.First.{first, when}
use Rattle.chain.specs.Nth.{nth}
use Rattle.chain.specs.Found.{Found}
use Rattle.chain.proofs.laws.All.{all-both}
use Rattle.chain.proofs.laws.Checks.{checks-none, kept-true, kept-equal, kept-under}
use Rattle.chain.proofs.laws.First.{first-all, when-nothing}
use Rattle.chain.proofs.laws.Means.{means-equal, means-either}
use Rattle.chain.proofs.laws.Places.{chain-within}
use Rattle.chain.proofs.laws.Steps.{steps-count, steps-nth}
use Rattle.kinds.specs.Signatures.{eeprom, eepr_map, brd_info, prom_sig}

-- a map's Length that fits: 30h + 20h n, n at least 1
pub map-length : (n : ℕ) → map_length_fits n ≡ true → (0x50 ≤ n) × (n ≡ MapData + (n - MapData) / map_record_size * map_record_size)
map-length n e =
    let t = (and-eq-true_iff (leb (MapData + map_record_size) n) (eqb ((n - MapData) % map_record_size) 0)).0 e in
    let a : 0x50 ≤ n = leb-true (MapData + map_record_size) n t.0 in
    let b : (n - MapData) % map_record_size ≡ 0 = eqb-true ((n - MapData) % map_record_size) 0 t.1 in
    (a, omega arith)

-- a Length that rule 21 lets pass is that of a header, and each header's is one
pub header-of : (n : ℕ) → is_header_length n ≡ true → (h : Header) × (n ≡ header_length h)
header-of n e =
    elim ((means-either (means-equal n (header_length Short)) (means-equal n (header_length Long))).0 e) [ inl d ↦ (Short, d) | inr d ↦ (Long, d) ]

pub header-good : (h : Header) → is_header_length (header_length h) ≡ true
header-good Short = refl
header-good Long = refl

module _ (s : List ℕ) where
  -- ---- rule 21: the header
  pub header-is : rule21 s ≡ None → (signature_at s 0 ≡ eeprom) × (major_at s 0 ≡ 1) × ((h : Header) × (length_at s 0 ≡ header_length h))
  unfolding rule21
  header-is e =
      let t = checks-none
      (when (not (eqb (signature_at s 0) eeprom)) 0
      ∷ when (not (eqb (major_at s 0) 1)) 0
      ∷ when (not (is_header_length (length_at s 0))) 0
      ∷ [])
      e in (
        kept-equal (signature_at s 0) eeprom 0 t.0,
        kept-equal (major_at s 0) 1 0 t.1.0,
        header-of (length_at s 0) (kept-true (is_header_length (length_at s 0)) 0 t.1.1.0),
      )

  -- all that is used of the header's Length: its bounds, and how its Reserved row lies in it
  pub header-length : rule21 s ≡ None → (0x20 ≤ length_at s 0) × (length_at s 0 ≤ 0x30) × (length_at s 0 % 16 ≡ 0)
  header-length e =
      let h = (header-is e).2 in
      subst (λ (n : ℕ). (0x20 ≤ n) × (n ≤ 0x30) × (n % 16 ≡ 0)) (sym h.1) (header-size h.0)

  pub header-covers : rule21 s ≡ None → (reserved_to Eeprom ≤ length_at s 0) ⊎ (length_at s 0 ≡ reserved_from Eeprom)
  header-covers e =
      let h = (header-is e).2 in
      subst (λ (n : ℕ). (reserved_to Eeprom ≤ n) ⊎ (n ≡ reserved_from Eeprom)) (sym h.1) (header-row h.0)

  -- the map starts where the header ends
  pub map-place : rule21 s ≡ None → map_at s ≡ length_at s 0
  unfolding map_at end_at
  map-place e =
      let h = header-length e in
      let z : end_at s 0 ≡ length_at s 0 = omega arith in
      next-round s 0 (omega (arith, h.0)) ∙ ap round16 z ∙ round-same (length_at s 0) h.2

  -- ---- rule 22: StructLen covers the header, and is not above what is lent
  pub struct-len-within : rule22 s ≡ None → (length_at s 0 ≤ struct_len s) × (struct_len s ≤ length s)
  unfolding rule22
  struct-len-within e =
      let t = checks-none (when (ltb (struct_len s) (length_at s 0)) StructLen ∷ when (ltb (length s) (struct_len s)) StructLen ∷ []) e in
      (kept-under (struct_len s) (length_at s 0) StructLen t.0, kept-under (length s) (struct_len s) StructLen t.1.0)

  -- ---- rule 26: the heads of map, board and `$PromSig`
  abbrev head_checks : List Found
  head_checks = bad_map_head s (map_at s) ∷ bad_board_head s (board_at s) ∷ on_found (bad_prom_sig_head s) (prom_sig_at s) ∷ []

  heads : rule26 s ≡ None → All (λ f. f ≡ None) head_checks
  unfolding rule26
  heads = checks-none head_checks

  -- the map's Length is 30h + 20h n, n at least 1
  pub map-head : rule26 s ≡ None
      → (major_at s (map_at s) ≡ 1) × (length_at s (map_at s) ≡ MapData + map_count s (map_at s) * map_record_size) × (1 ≤ map_count s (map_at s))
  unfolding bad_map_head
  map-head e =
      let m = map_at s in
      let t = checks-none (when (not (eqb (major_at s m) 1)) m ∷ when (not (map_length_fits (length_at s m))) m ∷ []) (heads e).0 in
      let l = map-length (length_at s m) (kept-true (map_length_fits (length_at s m)) m t.1.0) in
      (kept-equal (major_at s m) 1 m t.0, l.1, omega (arith, l.0))

  -- the board's is 60h
  pub board-head : rule26 s ≡ None → (major_at s (board_at s) ≡ 1) × (length_at s (board_at s) ≡ 0x60)
  unfolding bad_board_head
  board-head e =
      let b = board_at s in
      let t = checks-none (when (not (eqb (major_at s b) 1)) b ∷ when (not (eqb (length_at s b) 0x60)) b ∷ []) (heads e).1.0 in
      (kept-equal (major_at s b) 1 b t.0, kept-equal (length_at s b) 0x60 b t.1.0)

  -- that of a `$PromSig` reaches to its hash
  pub prom-sig-head : rule26 s ≡ None → (p : ℕ) → prom_sig_at s ≡ Some p → (major_at s p ≡ 1) × (EepromSig ≤ length_at s p)
  unfolding bad_prom_sig_head
  prom-sig-head e p d =
      let t = checks-none (when (not (eqb (major_at s p) 1)) p ∷ when (ltb (length_at s p) EepromSig) p ∷ [])
      (sym (ap (on_found (bad_prom_sig_head s)) d) ∙ (heads e).1.1.0) in
      (kept-equal (major_at s p) 1 p t.0, kept-under (length_at s p) EepromSig p t.1.0)

  -- ---- rule 26: the map is made of its records, and the board follows it
  -- n records after the map's 30h bytes
  pub map-ends : rule26 s ≡ None → end_at s (map_at s) ≡ map_at s + MapData + map_count s (map_at s) * map_record_size
  unfolding end_at
  map-ends e = omega (arith, (map-head e).1)

  -- the board starts where the map ends
  pub board-place : rule26 s ≡ None → board_at s ≡ end_at s (map_at s)
  unfolding board_at map_at
  board-place e =
      next-round s (map_at s) (omega (arith, (map-head e).1))
      ∙ round-same (end_at s (map_at s)) (omega (arith, map-ends e, next-whole s 0))

  -- the map has as many records as its Length says
  pub record-count : rule26 s ≡ None → length (records Map s (map_at s)) ≡ map_count s (map_at s)
  unfolding records
  record-count e =
      steps-count map_record_size (omega arith) (map_count s (map_at s)) (map_at s + MapData) (end_at s (map_at s)) (map-ends e)

  -- one after another from 30h on
  pub record-place : rule26 s ≡ None → (i : ℕ) → i < map_count s (map_at s) → nth (records Map s (map_at s)) i ≡ Some (map_at s + MapData + i * map_record_size)
  unfolding records
  record-place e i h =
      steps-nth map_record_size (omega arith) (map_count s (map_at s)) (map_at s + MapData) (end_at s (map_at s)) i (map-ends e) h

  -- each whole within the map
  pub records-fit : rule26 s ≡ None → All (λ r. (map_at s + MapData ≤ r) × (r + map_record_size ≤ end_at s (map_at s))) (records Map s (map_at s))
  records-fit e = layout.records-fit Map s (map_at s) (omega (arith, (map-head e).1)) (omega (arith, (map-head e).1))

  -- ---- rules 21 to 23 and 26: a `$PromSig` reaches to its hash, so the bytes that Crc32 covers lie within StructLen
  pub covered-within : rule21 s ≡ None → rule22 s ≡ None → rule23 s ≡ None → rule26 s ≡ None → (0x20 ≤ covered s) × (covered s ≤ struct_len s)
  unfolding covered end_at
  covered-within head len walk e = go (prom_sig_at s) refl
    where
      go : (f : Found) → prom_sig_at s ≡ f → (0x20 ≤ covered_up_to (struct_len s) f) × (covered_up_to (struct_len s) f ≤ struct_len s)
      go (Some p) d = (omega arith, omega (arith, (prom-sig-head e p d).1, (prom-sig-fits s walk p d).ends))
      go None d = (omega (arith, (header-length head).0, (struct-len-within len).0), omega arith)

  -- ---- rules 21 and 25: a `$PromSig` is one of the later structures, and the last
  abbrev pub Last : ℕ → Type 0
  Last p = signature_at s p ≡ prom_sig → (later_at s ≤ p) × (end_at s p ≡ struct_len s)

  -- one that is in order is the last
  in-order : (p : ℕ) → out_of_order s p ≡ None → signature_at s p ≡ prom_sig → end_at s p ≡ struct_len s
  unfolding out_of_order
  in-order p e h =
      let early : Bool = eqb (signature_at s p) prom_sig && not (eqb (end_at s p) (struct_len s)) in
      let t = checks-none (when (is_early (signature_at s p)) p ∷ when early p ∷ []) e in
      eqb-true (end_at s p) (struct_len s)
      (not-false (eqb (end_at s p) (struct_len s))
      (subst (λ (b : Bool). b && not (eqb (end_at s p) (struct_len s)) ≡ false) (eq-eqb (signature_at s p) prom_sig h) (when-nothing early p t.1.0)))

  -- each later one
  later-last : rule25 s ≡ None → All Last (chain (next s) (struct_len s) (later_at s))
  unfolding rule25
  later-last e =
      let l : List ℕ = chain (next s) (struct_len s) (later_at s) in
      let t = checks-none (expected s eepr_map (map_at s) ∷ expected s brd_info (board_at s) ∷ first (out_of_order s) l ∷ []) e in
      all-both (λ p. (later_at s ≤ p) × (p < struct_len s)) (λ p. out_of_order s p ≡ None) Last (λ p w c h. (w.0, in-order p c h)) l
      (chain-within (next s) (struct_len s) (next-grows s) (later_at s)) (first-all (out_of_order s) l t.1.1.0)

  -- header, map and board have other signatures
  pub prom-sig-last : rule21 s ≡ None → rule25 s ≡ None → All Last (structures s)
  prom-sig-last head e =
      subst (All Last) (sym (structures-are s e)) (
        (λ h. absurd (omega (arith, h, (header-is head).0))),
        ((λ h. absurd (omega (arith, h, (map-second s e).1))), ((λ h. absurd (omega (arith, h, (board-third s e).1))), later-last e)),
      )
