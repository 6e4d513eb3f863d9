-- The check fields of the image that is made are right: rule 27 is not broken, also where the further bytes end in a `$PromSig`. What it expects is not read
-- from the check fields, and both numbers fit their fields. Assumes nothing.
use Prim.Native.Nat.{ℕ, ◌+◌, ◌≤◌, ◌<◌}
use Rattle.std.specs.Prelude.{Bool, not, ◌≡◌, refl, take, drop, Some, None}
use mathlib.Core.List.{List, [], ◌∷◌, ◌++◌, map, append-nil}
use Rattle.std.proofs.Common.{sym, ◌∙◌, arith, eq-eqb}
use Rattle.std.proofs.Math.Path.{ap, ap₂}
use Rattle.std.proofs.Math.ListN.{get_or-map}
use Rattle.board_layout.specs.Layout.{struct_len}
use Rattle.board_layout.specs.Places.{Crc32, CrcLength}
use Rattle.board_rules.specs.Rules.{prom_sig_at, covered_up_to, covered, check_over, rule27}
use Rattle.board_rules.proofs.laws.Order.{prom-sig-below}
use Rattle.board_writer.specs.Image.{image_length, body, laid, crc_length, check, image}
use Rattle.board_writer.specs.Parts.{Parts}
use Rattle.octets.proofs.laws.Octets.{octets-append}
use Rattle.board_writer.proofs.laws.Check.{covered-laid, check-laid}
use Rattle.board_writer.proofs.laws.Fields.{check-read, covers-read}
use Rattle.board_writer.proofs.laws.Octets.{laid-octets}
use Rattle.board_writer.proofs.laws.Places.{struct-len-is}
use Rattle.chain.specs.First.{checks, when}
use Rattle.chain.specs.Found.{Found}
use Rattle.crc.specs.Blank.{blank}
use Rattle.crc.proofs.laws.Crc32.{crc32-below}
use Rattle.octets.specs.Bytes.{Octets, le32}
use Rattle.octets.proofs.laws.Bytes.{octets-take, octets-drop}

-- a list of bytes with a field counted as zero is one of bytes
blank-octets : (at n : ℕ) (s : List ℕ) → Octets s → Octets (blank at n s)
blank-octets at n s h =
    octets-append (take at s) (map (λ b. 0) (take n (drop at s)) ++ drop (at + n) s) (octets-take at s h)
    (octets-append (map (λ b. 0) (take n (drop at s))) (drop (at + n) s)
    (λ p. omega (arith, get_or-map {B = ℕ} (λ (b : ℕ). 0) (take n (drop at s)) p 0)) (octets-drop (at + n) s h))

-- the check fits four bytes
check-small : (x : Parts) → Octets (body x) → check x < 0x1_0000_0000
unfolding check check_over
check-small x h =
    let s : List ℕ = laid x 0 (crc_length x) in
    crc32-below (blank Crc32 4 (take (crc_length x) s)) (blank-octets Crc32 4 (take (crc_length x) s) (octets-take (crc_length x) s (laid-octets x 0 (crc_length x) h)))

-- so does what it covers: it ends by 20h past the start of a `$PromSig`, which lies before StructLen
covered-small : (s : List ℕ) → struct_len s ≤ 65536 → covered s < 0x1_0000_0000
unfolding covered
covered-small s h = go (prom_sig_at s) refl
  where
    go : (f : Found) → prom_sig_at s ≡ f → covered_up_to (struct_len s) f < 0x1_0000_0000
    go (Some p) e = omega (arith, prom-sig-below s p e)
    go None e = omega arith

pub covers-small : (x : Parts) → image_length x ≤ 65536 → crc_length x < 0x1_0000_0000
unfolding crc_length
covers-small x most =
    covered-small (laid x 0 0)
    (omega (arith, ap struct_len (append-nil (laid x 0 0)), struct-len-is x 0 0 [] (omega arith)))

module _ (x : Parts) (most : image_length x ≤ 65536) (octets : Octets (body x)) where
  -- Crc32 and CrcLength hold what rule 27 expects of the whole image
  pub check-fields : (le32 (image x) Crc32 ≡ check_over (image x) (covered (image x))) × (le32 (image x) CrcLength ≡ covered (image x))
  unfolding image check
  check-fields =
      let c : ℕ = check x in
      let n : ℕ = crc_length x in
      let whole : laid x c n ++ [] ≡ laid x c n = append-nil (laid x c n) in (
        ap (λ (s : List ℕ). le32 s Crc32) (sym whole) ∙ check-read x c n [] (check-small x octets) ∙ check-laid x c n n
            ∙ ap (check_over (laid x c n)) (covered-laid x c n),
        ap (λ (s : List ℕ). le32 s CrcLength) (sym whole) ∙ covers-read x c n [] (covers-small x most) ∙ covered-laid x c n,
      )

  -- so rule 27 is not broken
  pub check-fields-hold : rule27 (image x) ≡ None
  unfolding rule27
  check-fields-hold =
      let s : List ℕ = image x in
      ap₂ (λ (a b : Bool). checks (when (not a) Crc32 ∷ when (not b) CrcLength ∷ [])) (eq-eqb (le32 s Crc32) (check_over s (covered s)) check-fields.0)
      (eq-eqb (le32 s CrcLength) (covered s) check-fields.1)
