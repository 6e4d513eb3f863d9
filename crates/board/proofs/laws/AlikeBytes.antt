-- Two images of one length that differ in no byte that is shown, where the first is accepted: each byte of a head, of a field and of a record's field is shown,
-- Crc32 left out, whatever structure it might lie in; so it agrees. Assumes nothing.
use Rattle.std.specs.Prelude.{ℕ, ◌+◌, ◌≤◌, ◌<◌, true, false, ◌⊎◌, ◌≡◌, Some, Ok}
use Rattle.std.proofs.lemmas.Bool.{false≢true}
use mathlib.Core.List.{List}
use Rattle.std.proofs.Math.Logic.{inl, inr}
use Rattle.std.proofs.Math.Path.{refl, ap}
use Rattle.std.proofs.Common.{sym, subst, ◌∙◌}
use native.Mathlib.Omega.{arith}
use Rattle.board.specs.Answers.{is_gpio}
use Rattle.board.specs.NotShown.{InCheck, InRecord, NotShown, check, unknown, reserved, record_reserved, following}
use Rattle.board_layout.specs.Layout.{length_at, shape_at, struct_len, end_at, next, structures, map_at, record_size, data_offset, records}
use Rattle.board_layout.specs.Places.{head_size}
use Rattle.board_layout.specs.Shapes.{shape_of, knows, reserved_from, reserved_to, HasRecords}
use Rattle.board_layout.specs.declared.Records.{Records}
use Rattle.board_layout.specs.declared.Records.TheVariants.{Map, Gpio}
use Rattle.board_layout.specs.declared.Shape.{Shape}
use Rattle.board_layout.specs.declared.Shape.TheVariants.{Eeprom, EeprMap, BrdInfo, PromSig, AcpiTbl, FpgaNfo, GpioDat, HdCodec, Logo, MemCnfg, MacInfo, UCode, Video, Other}
use Rattle.board_layout.proofs.laws.Layout.{next-far, next-grows, end-next, record-size}
use Rattle.board_layout.proofs.laws.Tables.{reserved-row}
use Rattle.board_records.specs.Records.{record_from, record_to}
use Rattle.board_rules.specs.Judged.{judged}
use Rattle.board_rules.proofs.laws.Accepted.{header-length, map-place, map-second, structures-are, structures-fit}
use Rattle.board_rules.proofs.laws.Tables.{Holds, fields-hold}
use Rattle.board_rules.proofs.laws.Walk.{Fits}
use Rattle.chain.specs.All.{All}
use Rattle.chain.specs.Chain.{ahead}
use Rattle.chain.specs.Nth.{nth}
use Rattle.chain.proofs.laws.Chain.{chain-more}
use Rattle.chain.proofs.laws.Apart.{chain-apart}
use Rattle.chain.proofs.laws.Nth.{nth-all}
use Rattle.chain.proofs.laws.Places.{chain-within, chain-all}
use Rattle.chain.proofs.laws.Steps.{ahead-grows}
use Rattle.kinds.specs.declared.Kinds.{Kinds}
use Rattle.octets.specs.Bytes.{byte}
use Rattle.octets.proofs.laws.Same.{Same}

-- structure i starts at p
abbrev pub Stands : List ℕ → ℕ → ℕ → Type 0
Stands s i p = nth (structures s) i ≡ Some p

-- two images of one length that differ in no byte that is shown. "An image's length is .. StructLen; what is lent past it may differ."
pub record Alike (k : Kinds) (s t : List ℕ) : Type 0 where
  pub length : struct_len s ≡ struct_len t
  pub bytes : (q : ℕ) → q < struct_len s → (byte s q ≡ byte t q) ⊎ NotShown k s q

-- only one table is that of GPIO data
pub gpio-shape : (a : Shape) → is_gpio a ≡ true → a ≡ GpioDat
gpio-shape Eeprom e = absurd (false≢true e)
gpio-shape EeprMap e = absurd (false≢true e)
gpio-shape BrdInfo e = absurd (false≢true e)
gpio-shape PromSig e = absurd (false≢true e)
gpio-shape AcpiTbl e = absurd (false≢true e)
gpio-shape FpgaNfo e = absurd (false≢true e)
gpio-shape GpioDat e = refl
gpio-shape HdCodec e = absurd (false≢true e)
gpio-shape Logo e = absurd (false≢true e)
gpio-shape MemCnfg e = absurd (false≢true e)
gpio-shape MacInfo e = absurd (false≢true e)
gpio-shape UCode e = absurd (false≢true e)
gpio-shape Video e = absurd (false≢true e)
gpio-shape Other e = absurd (false≢true e)

-- the second structure is the map
pub map-shape : (k : Kinds) (s : List ℕ) (c : ℕ) → judged k s ≡ Ok c → shape_at s (map_at s) ≡ EeprMap
unfolding shape_at shape_of
map-shape k s c e = rw (map-second k s c e).1

module _ (k : Kinds) (s t : List ℕ) (c : ℕ) (e : judged k s ≡ Ok c) (alike : Alike k s t) where
  -- the first two
  pub header-stands : Stands s 0 0
  unfolding nth
  header-stands = ap (λ (l : List ℕ). nth l 0) (structures-are k s c e)

  pub map-stands : Stands s 1 (map_at s)
  unfolding nth
  map-stands = ap (λ (l : List ℕ). nth l 1) (structures-are k s c e)

  -- each fits
  fit : (i p : ℕ) → Stands s i p → Fits s p
  fit i p = nth-all (Fits s) (structures s) i p (structures-fit k s c e)

  -- it is the header, or starts past it, and so past Crc32
  pub map-far : 0x20 ≤ map_at s
  map-far = omega (arith, map-place k s c e, (header-length k s c e).0)

  pub starts : (i p : ℕ) → Stands s i p → (p ≡ 0) ⊎ (0x20 ≤ p)
  unfolding map_at
  starts i p =
      nth-all (λ x. (x ≡ 0) ⊎ (0x20 ≤ x)) (structures s) i p
      (subst (All (λ x. (x ≡ 0) ⊎ (0x20 ≤ x)))
      (sym (chain-more (next s) (struct_len s) (next-grows s) 0 (omega (arith, (fit 0 0 header-stands).room)))) (
        inl refl,
        chain-all (next s) (struct_len s) (next-grows s) (λ x. (x ≡ 0) ⊎ (0x20 ≤ x)) (map_at s) (λ x h _. inr (omega (arith, h, map-far))),
      ))

  -- ---- the bytes of a structure
  -- a place lies in one structure only
  own : (i p j r q : ℕ) → Stands s i p → Stands s j r → p ≤ q → q < next s p → r ≤ q → q < next s r → r ≡ p
  own i p j r q at stands a b c d =
      elim (chain-apart (next s) (struct_len s) (next-grows s) 0 i j p r at stands) [
        | inl z ↦ sym z
        | inr (inl z) ↦ absurd (omega arith)
        | inr (inr z) ↦ absurd (omega arith)
      ]

  -- the records of a structure start past its Reserved row
  records-start : (which : Records) (p r j : ℕ) → HasRecords which (shape_at s p) → nth (records which s p) j ≡ Some r → p + reserved_to (shape_at s p) ≤ r
  unfolding records
  records-start which p r j has stands =
      omega (
        arith,
        (nth-all (λ x. (p + data_offset which ≤ x) × (x < end_at s p)) (records which s p) j r
            (chain-within (ahead (record_size which)) (end_at s p) (ahead-grows (record_size which) (omega (arith, (record-size which).0))) (p + data_offset which))
            stands).0,
        row which has,
      )
    where
      row : (which : Records) → HasRecords which (shape_at s p) → reserved_to (shape_at s p) ≡ data_offset which
      row Map has = ap reserved_to has
      row Gpio has = ap reserved_to has

  -- what is not shown of the structure at p, outside Crc32: its data where it is not known, and past its fields where it is
  abbrev Past : ℕ → ℕ → Type 0
  Past p q = ((knows k (shape_at s p) ≡ false) × (p + head_size ≤ q)) ⊎ ((knows k (shape_at s p) ≡ true) × (p + reserved_from (shape_at s p) ≤ q))

  past : (i p q : ℕ) → Stands s i p → p ≤ q → q < next s p → NotShown k s q → InCheck q ⊎ Past p q
  past i p q at a b (check h) = inl h
  past i p q at a b (unknown u) =
      let z : u.place ≡ p = own i p u.number u.place q at u.stands a b (omega (arith, u.past)) (omega (arith, u.before, end-next s u.place)) in
      inr (subst (λ (x : ℕ). Past x q) z (inl (u.property, u.past)))
  past i p q at a b (reserved u) =
      let r : ℕ = u.place in
      let w : q < next s r = omega (arith, u.before, u.property.1, end-next s r) in
      let z : r ≡ p = own i p u.number r q at u.stands a b (omega (arith, u.past)) w in
      inr (subst (λ (x : ℕ). Past x q) z (inr (u.property.0.0, u.past)))
  past i p q at a b (record_reserved which u) =
      let r : ℕ = u.place in
      let v = u.property.2 in
      let z : r ≡ p = own i p u.number r q at u.stands a b u.past (omega (arith, u.before, end-next s r)) in
      inr (subst (λ (x : ℕ). Past x q) z (inr (
        u.property.0.0,
        omega (arith, v.past, records-start which r v.place v.number u.property.1 v.stands, (reserved-row (shape_at s r)).1),
      )))
  past i p q at a b (following u) =
      let r : ℕ = u.place in
      let z : r ≡ p = own i p u.number r q at u.stands a b (omega (arith, u.past)) (omega (arith, u.before, end-next s r)) in
      inr (subst (λ (x : ℕ). Past x q) z (inr (u.property.0, omega (arith, u.past, (reserved-row (shape_at s r)).1))))

  -- the head agrees
  pub head-alike : (i p : ℕ) → Stands s i p → Same s t p (p + head_size)
  head-alike i p at q a b = go (alike.bytes q (omega (arith, b, (fit i p at).room)))
    where
      clear : (p ≡ 0) ⊎ (0x20 ≤ p) → InCheck q → ⊥
      clear (inl z) h = omega (arith, b, z, h.0)
      clear (inr z) h = omega (arith, a, z, h.1)

      go : (byte s q ≡ byte t q) ⊎ NotShown k s q → byte s q ≡ byte t q
      go (inl d) = d
      go (inr u) =
          elim (past i p q at a (omega (arith, b, next-far s p)) u) [
            | inl h ↦ absurd (clear (starts i p at) h)
            | inr (inl h) ↦ absurd (omega (arith, b, h.1))
            | inr (inr h) ↦ absurd (omega (arith, b, h.1, (reserved-row (shape_at s p)).0))
          ]

  -- and so do the fields of a known structure, outside Crc32
  pub outside-check : (i p : ℕ) → Stands s i p → knows k (shape_at s p) ≡ true → (q : ℕ) → p ≤ q → q < p + reserved_from (shape_at s p) → (InCheck q → ⊥) → byte s q ≡ byte t q
  unfolding end_at
  outside-check i p at known q a b never =
      let w : reserved_from (shape_at s p) ≤ length_at s p = nth-all (Holds k s) (structures s) i p (fields-hold k s c e) at known in
      elim (alike.bytes q (omega (arith, b, w, (fit i p at).ends))) [
        | inl d ↦ d
        | inr u ↦ elim (past i p q at a (omega (arith, b, w, end-next s p)) u) [
          | inl h ↦ absurd (never h)
          | inr (inl h) ↦ absurd (false≢true (sym h.0 ∙ known))
          | inr (inr h) ↦ absurd (omega (arith, b, h.1))
        ]
      ]

  -- of one past the header all fields agree
  pub fields-alike : (i p : ℕ) → Stands s i p → 0x20 ≤ p → knows k (shape_at s p) ≡ true → Same s t p (p + reserved_from (shape_at s p))
  fields-alike i p at far known q a b = outside-check i p at known q a b (λ h. omega (arith, a, far, h.1))

  -- and so do those of its records
  pub record-alike : (which : Records) (i p : ℕ) → Stands s i p → 0x20 ≤ p → knows k (shape_at s p) ≡ true → HasRecords which (shape_at s p)
      → (j r : ℕ) → nth (records which s p) j ≡ Some r → r + record_from which ≤ end_at s p → Same s t r (r + record_from which)
  unfolding records
  record-alike which i p at far known has j r stands w q a b =
      elim (alike.bytes q (omega (arith, b, w, (fit i p at).ends))) [ inl d ↦ d | inr u ↦ absurd (never u) ]
    where
      start : p + reserved_to (shape_at s p) ≤ r
      start = records-start which p r j has stands

      here : (n o : ℕ) → Stands s n o → o ≤ q → q < next s o → o ≡ p
      here n o other x y = own i p n o q at other (omega (arith, a, start)) (omega (arith, b, w, end-next s p)) x y

      -- a structure has records of one kind only
      one-kind : (x y : Records) → HasRecords x (shape_at s p) → HasRecords y (shape_at s p) → x ≡ y
      one-kind Map Map f g = refl
      one-kind Map Gpio f g = let z : EeprMap ≡ GpioDat = sym f ∙ g in cc
      one-kind Gpio Map f g = let z : EeprMap ≡ GpioDat = sym g ∙ f in cc
      one-kind Gpio Gpio f g = refl

      size : (x : Records) → record_to x ≡ record_size x
      size Map = refl
      size Gpio = refl

      in-record : InRecord k s which q p → ⊥
      in-record v =
          elim (chain-apart (ahead (record_size which)) (end_at s p) (ahead-grows (record_size which) (omega (arith, (record-size which).0))) (p + data_offset which)
          j v.number r v.place stands v.stands) [
            | inl z ↦ omega (arith, b, v.past, z)
            | inr (inl z) ↦ omega (arith, b, v.past, z, (record-size which).0)
            | inr (inr z) ↦ omega (arith, a, v.before, z, size which)
          ]

      never : NotShown k s q → ⊥
      never (check h) = omega (arith, a, start, far, h.1)
      never (unknown u) =
          let z : u.place ≡ p = here u.number u.place u.stands (omega (arith, u.past)) (omega (arith, u.before, end-next s u.place)) in
          false≢true (sym u.property ∙ ap (λ (x : ℕ). knows k (shape_at s x)) z ∙ known)
      never (reserved u) =
          let o : ℕ = u.place in
          let z : o ≡ p = here u.number o u.stands (omega (arith, u.past)) (omega (arith, u.before, u.property.1, end-next s o)) in
          omega (arith, a, start, subst (λ (x : ℕ). q < x + reserved_to (shape_at s x)) z u.before)
      never (record_reserved other u) =
          let z : u.place ≡ p = here u.number u.place u.stands u.past (omega (arith, u.before, end-next s u.place)) in
          let v = subst (λ (x : ℕ). HasRecords other (shape_at s x) × InRecord k s other q x) z (u.property.1, u.property.2) in
          in-record (subst (λ (x : Records). InRecord k s x q p) (one-kind other which v.0 has) v.1)
      never (following u) =
          let z : u.place ≡ p = here u.number u.place u.stands (omega (arith, u.past)) (omega (arith, u.before, end-next s u.place)) in
          u.property.1 which (subst (λ (x : ℕ). HasRecords which (shape_at s x)) (sym z) has)
