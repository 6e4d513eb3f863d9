-- Two accepted images that show the same item at a place: which bytes of that structure agree. Assumes nothing.
use Rattle.std.specs.Prelude.{ℕ, ◌+◌, ◌≤◌, ◌<◌, true, List, ◌≡◌, Some, Ok}
use Rattle.std.proofs.Common.{sym, subst, ◌∙◌, arith}
use Rattle.std.proofs.Math.Path.{ap}
use Rattle.board_layout.specs.Layout.{minor_at, length_at, shape_at, struct_len, end_at, round16, covers, next, structures, data_offset, record_size, records}
use Rattle.board_layout.specs.Places.{VerMajor, Length, head_size}
use Rattle.board_layout.specs.Shapes.{knows, reserved_from, reserved_to, HasRecords}
use Rattle.board_layout.specs.declared.Records.{Records}
use Rattle.board_records.specs.Records.{record_from, record_to}
use Rattle.board_rules.specs.Judged.{judged}
use Rattle.board_rules.proofs.laws.Accepted.{structures-fit, gaps-zero}
use Rattle.board_rules.proofs.laws.Rows.{row-zero, record-zero}
use Rattle.board_rules.proofs.laws.Walk.{Fits, GapZero}
use Rattle.board.proofs.laws.Told.{SameShown, length-told, known-too, minor-told, shape-told}
use Rattle.chain.specs.Chain.{chain, ahead}
use Rattle.chain.specs.Nth.{nth}
use Rattle.chain.proofs.laws.Nth.{nth-all}
use Rattle.kinds.specs.declared.Kinds.{Kinds}
use Rattle.octets.specs.Bytes.{byte, Octets}
use Rattle.octets.proofs.laws.Same.{Same}
use Rattle.octets.proofs.laws.Told.{le32-told, le64-told}

module _ (k : Kinds) (s t : List ℕ) (good : Octets s) (fine : Octets t) (c d : ℕ) (e : judged k s ≡ Ok c) (g : judged k t ≡ Ok d) (i p : ℕ) (at : nth (structures s) i ≡ Some p) (too : nth (structures t) i ≡ Some p) (item : SameShown k s t p) where
  fits : Fits s p
  fits = nth-all (Fits s) (structures s) i p (structures-fit k s c e) at

  fits-too : Fits t p
  fits-too = nth-all (Fits t) (structures t) i p (structures-fit k t d g) too

  -- ---- every structure
  lengths : length_at s p ≡ length_at t p
  lengths = length-told k s t p item fits.head fits-too.head

  pub ends : end_at s p ≡ end_at t p
  unfolding end_at
  ends = ap (λ (n : ℕ). p + n) lengths

  nexts : next s p ≡ next t p
  unfolding next
  nexts = ap (λ (n : ℕ). round16 (p + covers n)) lengths

  -- signature and Length
  pub signature-bytes : Same s t p (p + VerMajor)
  signature-bytes = le64-told s t p good fine item.signature

  pub length-bytes : Same s t (p + Length) (p + head_size)
  length-bytes q a b = le32-told s t (p + Length) good fine lengths q a (omega arith)

  -- the bytes up to the next structure are zero
  pub gap-bytes : struct_len s ≡ struct_len t → (q : ℕ) → q < struct_len s → end_at s p ≤ q → q < next s p → byte s q ≡ byte t q
  gap-bytes len q h a b =
      nth-all (GapZero s) (structures s) i p (gaps-zero k s c e) at (λ z. omega arith) q a b
      ∙ sym (nth-all (GapZero t) (structures t) i p (gaps-zero k t d g) too (λ z. omega (arith, ends, z)) q (omega (arith, ends)) (omega (arith, nexts)))

  -- ---- a known structure
  module _ (on : knows k (shape_at s p) ≡ true) where
    pub shapes : shape_at s p ≡ shape_at t p
    shapes = shape-told k s t p item on

    pub known-here : knows k (shape_at t p) ≡ true
    known-here = known-too k s t p item on

    minors : minor_at s p ≡ minor_at t p
    minors = minor-told k s t p item on

    -- with VerMinor 0 its reserved bytes are zero in both, and those of its records
    pub row-bytes : minor_at s p ≡ 0 → p + reserved_to (shape_at s p) ≤ end_at s p → Same s t (p + reserved_from (shape_at s p)) (p + reserved_to (shape_at s p))
    row-bytes h whole q a b =
        row-zero k s c e i p at on h whole q a b
        ∙ sym (row-zero k t d g i p too known-here (sym minors ∙ h) (omega (arith, whole, ends, ap reserved_to shapes)) q (omega (arith, a, ap reserved_from shapes)) (omega (arith, b, ap reserved_to shapes)))

    pub record-bytes : (which : Records) → HasRecords which (shape_at s p) → minor_at s p ≡ 0 → (j r : ℕ) → nth (records which s p) j ≡ Some r
        → nth (records which t p) j ≡ Some r → Same s t (r + record_from which) (r + record_to which)
    record-bytes which is h j r stands stands-too q a b =
        record-zero k s c e i p at on which is h j r stands q a b
        ∙ sym (record-zero k t d g i p too known-here which (subst (HasRecords which) shapes is) (sym minors ∙ h) j r stands-too q a b)

  -- both have their records at the same places
  pub record-places : (which : Records) → records which s p ≡ records which t p
  unfolding records
  record-places which = ap (λ (end : ℕ). chain (ahead (record_size which)) end (p + data_offset which)) ends
