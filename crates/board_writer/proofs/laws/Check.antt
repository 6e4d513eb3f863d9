-- The check fields. Images of the same parts with other check fields are alike outside these, and what rule 27 expects is not read from them; so an image of the
-- parts that a reader accepts is the one that the writer makes. Assumes nothing.
use Prim.Native.Nat.{ℕ, ◌+◌, ◌-◌, ◌≤◌, ◌<◌}
use mathlib.Core.List.{List, ◌++◌}
use Rattle.std.proofs.Common.{inl, inr, ◌∙◌, arith, length-take, get_or-take, get_or-append-add}
use Rattle.std.specs.Prelude.{◌≡◌, length, take, Ok}
use Rattle.std.proofs.Math.Path.{refl, sym, ap, ap₂}
use Rattle.std.proofs.Math.ListN.{get_or-append}
use Rattle.board_layout.specs.Layout.{header_length}
use Rattle.board_layout.specs.Places.{Crc32, CrcLength}
use Rattle.board_layout.proofs.laws.Layout.{header-size}
use Rattle.board_rules.specs.Judged.{judged}
use Rattle.board_rules.specs.Rules.{covered, check_over}
use Rattle.board_rules.proofs.laws.Accepted.{check-holds}
use Rattle.board_writer.specs.Image.{zeros, head, image_length, body, laid, crc_length, check, image}
use Rattle.board_writer.specs.Parts.{Parts}
use Rattle.board_writer.proofs.laws.Covered.{covered-same}
use Rattle.chain.specs.Fill.{tab}
use Rattle.chain.proofs.laws.Below.{below}
use Rattle.crc.specs.Crc32.{crc32}
use Rattle.crc.proofs.laws.Blank.{blank-same}
use Rattle.kinds.specs.Signatures.{eeprom}
use Rattle.kinds.specs.declared.Kinds.{Kinds}
use Rattle.octets.specs.Bytes.{byte, spelled, le32}
use Rattle.octets.proofs.laws.Bytes.{byte-past}
use Rattle.octets.proofs.laws.Spelled.{little-spelled}

-- ---- two lists that differ in a middle part only
-- have the same bytes before it
before : (a b c d e : List ℕ) (q : ℕ) → q < length a → byte (a ++ (b ++ d)) q ≡ byte (a ++ (c ++ e)) q
before a b c d e q h = get_or-append a (b ++ d) 0 q h ∙ sym (get_or-append a (c ++ e) 0 q h)

-- and behind it
behind-part : (a b d : List ℕ) (i : ℕ) → byte (a ++ (b ++ d)) (length a + (length b + i)) ≡ byte d i
behind-part a b d i = get_or-append-add a (b ++ d) (length b + i) 0 ∙ get_or-append-add b d i 0

behind : (a b c d : List ℕ) → length b ≡ length c → (q : ℕ) → length a + length b ≤ q → byte (a ++ (b ++ d)) q ≡ byte (a ++ (c ++ d)) q
behind a b c d same q h =
    let i : ℕ = q - (length a + length b) in
    let e : q ≡ length a + (length b + i) = omega arith in
    let f : q ≡ length a + (length c + i) = omega arith in
    ap (byte (a ++ (b ++ d))) e ∙ behind-part a b d i ∙ sym (ap (byte (a ++ (c ++ d))) f ∙ behind-part a c d i)

-- a byte that they share is one of the first n of both, or of neither
taken : (n : ℕ) (s t : List ℕ) (q : ℕ) → length s ≡ length t → byte s q ≡ byte t q → byte (take n s) q ≡ byte (take n t) q
taken n s t q e d =
    elim (below q n) [
      | inl h ↦ get_or-take n s q 0 h ∙ d ∙ sym (get_or-take n t q 0 h)
      | inr h ↦ byte-past (take n s) q (simp length-take (omega arith)) ∙ sym (byte-past (take n t) q (simp length-take (omega arith)))
    ]

module _ (x : Parts) where
  -- what the image has before the check fields, and after them
  abbrev front : List ℕ
  front = head eeprom (header_length x.header) ++ spelled 4 (image_length x)

  abbrev back : List ℕ
  back = spelled 4 x.version ++ zeros (header_length x.header - 0x20) ++ body x

  -- how much the check covers is not read from them
  pub covered-laid : (c l : ℕ) → crc_length x ≡ covered (laid x c l)
  unfolding crc_length laid spelled le32 tab
  covered-laid c l =
      let none : List ℕ = spelled 4 0 ++ spelled 4 0 in
      let some : List ℕ = spelled 4 c ++ spelled 4 l in
      let h = header-size x.header in
      let size = little-spelled 4 (header_length x.header) (omega (arith, h.1)) in
      covered-same (laid x 0 0) (laid x c l) (λ q _ h. before front none some back back q h) (behind front none some back refl)
      (omega (arith, size, h.0))

  -- nor is the check read from Crc32
  pub check-laid : (c l n : ℕ) → check_over (laid x 0 l) n ≡ check_over (laid x c l) n
  unfolding check_over laid spelled
  check-laid c l n =
      let s : List ℕ = laid x 0 l in
      let t : List ℕ = laid x c l in
      let more : List ℕ = spelled 4 l ++ back in
      ap crc32
      (blank-same Crc32 4 (take n s) (take n t) (length-take n s ∙ sym (length-take n t))
      (λ q h. taken n s t q refl (before front (spelled 4 0) (spelled 4 c) more more q h))
      (λ q h. taken n s t q refl (behind front (spelled 4 0) (spelled 4 c) more refl q h)))

  -- so check fields with which the image is accepted are those that are worked out
  pub image-accepted : (k : Kinds) (c l n : ℕ) → judged k (laid x c l) ≡ Ok n → le32 (laid x c l) Crc32 ≡ c → le32 (laid x c l) CrcLength ≡ l
      → image x ≡ laid x c l
  unfolding image check
  image-accepted k c l n e first second =
      let t : List ℕ = laid x c l in
      let holds = check-holds k t n e in
      let size : crc_length x ≡ l = covered-laid c l ∙ sym holds.1 ∙ second in
      ap₂ (laid x)
      (ap (λ (m : ℕ). check_over (laid x 0 m) m) size ∙ check-laid c l l ∙ ap (check_over t) (sym second ∙ holds.1) ∙ sym holds.0 ∙ first)
      size
