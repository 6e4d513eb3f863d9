-- What the writer can refuse with: of the reader's rules all but 20, 21, 22 and 27, since length, header, StructLen and check fields of the image are the
-- writer's own work. Assumes nothing.
use Prim.Native.Nat.{ℕ, ◌≤◌}
use Rattle.std.specs.Prelude.{true, ◌≡◌, refl, length, Some, None, Ok}
use mathlib.Core.List.{List, [], ◌∷◌, append-nil, Memᴰ}
use Rattle.std.proofs.Common.{sym, ◌∙◌, arith, le-ltb, eq-eqb}
use Rattle.std.proofs.Math.Path.{ap, subst}
use Rattle.board_layout.specs.Layout.{signature_at, major_at, length_at, struct_len, structures, header_length}
use Rattle.board_layout.specs.declared.Header.{Header}
use Rattle.board_layout.specs.declared.Header.TheVariants.{Short}
use Rattle.board_layout.proofs.laws.Layout.{header-size}
use Rattle.board_rules.specs.Judged.{rules, judged}
use Rattle.board_rules.specs.Rules.{is_header_length, prom_sig_at, rule20, rule21, rule22, rule23, rule24, rule25, rule26, rule27, rule28, rule29, rule30, rule31, rule32, rule33, rule34}
use Rattle.board_rules.proofs.laws.Heads.{header-good}
use Rattle.board_writer.specs.Image.{image_length, body, laid, crc_length, check, image}
use Rattle.board_writer.specs.Parts.{Parts, OfBytes}
use Rattle.board_writer.specs.Written.{writer_rules, unsigned, reviewed, checked, written}
use Rattle.board_writer.proofs.laws.CheckFields.{check-fields-hold}
use Rattle.board_writer.proofs.laws.Length.{image-length}
use Rattle.board_writer.proofs.laws.Octets.{body-octets}
use Rattle.board_writer.proofs.laws.Places.{Head, header-head, struct-len-is}
use Rattle.chain.specs.Found.{Found}
use Rattle.chain.proofs.laws.Checks.{kept-under}
use Rattle.kinds.specs.Kinds.{full}
use Rattle.kinds.specs.Signatures.{eeprom}
use Rattle.octets.specs.Bytes.{Octets}
use Rattle.verdict.specs.Said.{refused, write_said}
use Rattle.verdict.specs.Verdict.{refuse, answer}
use Rattle.verdict.specs.Answers.{Judged}
use Rattle.verdict.proofs.laws.Numbers.{Refuses, table-number, rules-number}

-- rules 20, 21, 22 and 27 are not broken
pub record WellFormed (s : List ℕ) : Type 0 where
  pub twenty : rule20 s ≡ None
  pub twenty_one : rule21 s ≡ None
  pub twenty_two : rule22 s ≡ None
  pub twenty_seven : rule27 s ≡ None

-- ---- the image that is made breaks none of them
-- what rule 20 asks of the length
length-holds : (s : List ℕ) → header_length Short ≤ length s → length s ≤ 65536 → rule20 s ≡ None
unfolding rule20
length-holds s least most = rw (le-ltb (length s) (header_length Short) least, le-ltb 65536 (length s) most)

-- what rule 21 asks of the header
header-holds : (s : List ℕ) (h : Header) → Head s 0 eeprom (header_length h) → rule21 s ≡ None
unfolding rule21
header-holds s h head =
    let good : is_header_length (length_at s 0) ≡ true = ap is_header_length head.length ∙ header-good h in
    rw (eq-eqb (signature_at s 0) eeprom head.signature, eq-eqb (major_at s 0) 1 head.major, good)

-- what rule 22 asks of StructLen
struct-len-holds : (s : List ℕ) → length_at s 0 ≤ struct_len s → struct_len s ≤ length s → rule22 s ≡ None
unfolding rule22
struct-len-holds s least most = rw (le-ltb (struct_len s) (length_at s 0) least, le-ltb (length s) (struct_len s) most)

module _ (x : Parts) (most : image_length x ≤ 65536) where
  -- the header of the image, and its StructLen
  image-head : Head (image x) 0 eeprom (header_length x.header)
  unfolding image
  image-head =
      let c : ℕ = check x in
      let n : ℕ = crc_length x in
      subst (λ (s : List ℕ). Head s 0 eeprom (header_length x.header)) (append-nil (laid x c n)) (header-head x c n [] (omega arith))

  image-struct-len : struct_len (image x) ≡ image_length x
  unfolding image
  image-struct-len =
      let c : ℕ = check x in
      let n : ℕ = crc_length x in
      ap struct_len (sym (append-nil (laid x c n))) ∙ struct-len-is x c n [] (omega arith)

-- all four
pub image-well-formed : (x : Parts) → image_length x ≤ 65536 → Octets (body x) → WellFormed (image x)
image-well-formed x most octets =
    record {
      twenty = length-holds (image x) (omega (arith, image-length x, (header-size x.header).0)) (omega (arith, image-length x));
      twenty_one = header-holds (image x) x.header (image-head x most);
      twenty_two = struct-len-holds (image x) (omega (arith, image-struct-len x most, (image-head x most).length)) (omega (arith, image-struct-len x most, image-length x));
      twenty_seven = check-fields-hold x most octets;
    }

-- ---- the number of a refusal
-- 45 comes after a table of rules
unsigned-last : (s : List ℕ) (l : List (ℕ × Found)) (j : Judged) → unsigned s (answer l j) ≡ answer l (unsigned s j)
unsigned-last s [] j = refl
unsigned-last s (r ∷ rs) j = go r.1 (unsigned-last s rs j)
  where
    go : (f : Found) → unsigned s (answer rs j) ≡ answer rs (unsigned s j)
        → unsigned s (refuse r.0 f (answer rs j)) ≡ refuse r.0 f (answer rs (unsigned s j))
    go (Some p) e = refl
    go None e = e

-- the rules that are left, and 45
abbrev left : List ℕ → List (ℕ × Found)
left s =
    (23, rule23 s)
    ∷ (24, rule24 s)
    ∷ (25, rule25 s)
    ∷ (26, rule26 s)
    ∷ (28, rule28 s)
    ∷ (29, rule29 s)
    ∷ (30, rule30 s)
    ∷ (34, rule34 s)
    ∷ (31, rule31 s)
    ∷ (32, rule32 full s)
    ∷ (33, rule33 full s)
    ∷ (45, prom_sig_at s)
    ∷ []

-- what is said of an image that is well-formed
review-left : (s : List ℕ) → WellFormed s → reviewed s ≡ answer (left s) (Ok (length (structures s)))
unfolding reviewed judged
review-left s w =
    unsigned-last s (rules full s) (Ok (length (structures s))) ∙ rw (w.twenty, w.twenty_one, w.twenty_two, w.twenty_seven)

-- the number of a refusal of it
review-number : (bytes buffer : List ℕ) (n p : ℕ) → WellFormed bytes → Refuses bytes buffer n p (reviewed bytes)
    → Memᴰ n (23 ∷ 24 ∷ 25 ∷ 26 ∷ 28 ∷ 29 ∷ 30 ∷ 34 ∷ 31 ∷ 32 ∷ 33 ∷ 45 ∷ [])
review-number bytes buffer n p w e =
    rules-number bytes buffer n p (left bytes) (length (structures bytes)) (subst (Refuses bytes buffer n p) (review-left bytes w) e)

-- so a refusal of the writer has one of these numbers
pub refused-numbers : (x : Parts) (buffer : List ℕ) (n p : ℕ) → OfBytes x → write_said (written x buffer).0 ≡ refused n p
    → Memᴰ n (46 ∷ (40 ∷ (41 ∷ (23 ∷ (24 ∷ (25 ∷ (26 ∷ (28 ∷ (29 ∷ (30 ∷ (34 ∷ (31 ∷ (32 ∷ (33 ∷ (45 ∷ [])))))))))))))))
unfolding written checked
refused-numbers x buffer n p given e =
    table-number (image x) buffer n p (writer_rules x (length buffer)) (reviewed (image x)) (23 ∷ 24 ∷ 25 ∷ 26 ∷ 28 ∷ 29 ∷ 30 ∷ 34 ∷ 31 ∷ 32 ∷ 33 ∷ 45 ∷ [])
    (λ c. review-number (image x) buffer n p (image-well-formed x (kept-under 65536 (image_length x) 0 c.1.0) (body-octets x given))) e
