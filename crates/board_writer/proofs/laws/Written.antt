-- What is written is accepted and reads back: exactly when a length n is answered; and after such a call the first m bytes of the buffer, for any m from n to
-- 65,536, are accepted with the full list, have no `$PromSig`, and the parts read from them are those given. Assumes nothing.
use Rattle.std.specs.Prelude.{ℕ, ◌+◌, ◌-◌, ◌≤◌, ◌≡◌, take, drop, None, Ok, Err}
use mathlib.Core.List.{List, ◌++◌}
use Rattle.std.proofs.Math.Path.{refl, sym}
use Rattle.std.proofs.Common.{ap, subst, ◌∙◌, arith, length-append, length-take, length-drop, take_all}
use Rattle.std.proofs.Math.ListN.{length}
use Rattle.std.proofs.Math.Seq.{take-append-add}
use Rattle.board_rules.specs.Judged.{judged}
use Rattle.board_rules.specs.Rules.{prom_sig_at}
use Rattle.board_writer.specs.Image.{image_length, image}
use Rattle.board_writer.specs.Parts.{Parts, Fits, rule46}
use Rattle.board_writer.specs.PartsOf.{parts_of}
use Rattle.board_writer.specs.ReadsBack.{ReadsBack}
use Rattle.board_writer.specs.Written.{writer_rules, reviewed, checked, written}
use Rattle.board_writer.proofs.laws.Back.{parts-image}
use Rattle.board_writer.proofs.laws.Front.{front-accepted, front-signed}
use Rattle.board_writer.proofs.laws.Length.{image-length}
use Rattle.board_writer.proofs.laws.Order.{reviewed-well, written-image}
use Rattle.chain.specs.Found.{Found}
use Rattle.chain.proofs.laws.Checks.{kept-under}
use Rattle.kinds.specs.Kinds.{full}
use Rattle.verdict.specs.Said.{Said, says, refused, write_said}
use Rattle.verdict.specs.Written.{written_if}
use Rattle.verdict.specs.Answers.{Judged, WriteAnswer}
use Rattle.verdict.proofs.laws.Accepted.{Clear, clear, after}

-- ---- when a length is answered
-- exactly when the answer is a length n: no rule of the writer is broken, and the reader accepts the image and finds no `$PromSig` in it
pub record Writable (x : Parts) (buffer : List ℕ) (n : ℕ) : Type 0 where
  pub whole : rule46 x ≡ None
  pub size : n ≡ image_length x
  pub most : n ≤ 65536
  pub room : n ≤ length buffer
  pub count : ℕ
  pub accepted : judged full (image x) ≡ Ok count
  pub unsigned : prom_sig_at (image x) ≡ None

module _ (x : Parts) (buffer : List ℕ) (n : ℕ) where
  -- then the image is written
  writes : (w : Writable x buffer n) → written x buffer ≡ written_if (image x) buffer (Ok w.count)
  writes w =
      written-image x buffer w.whole (omega (arith, w.size, w.most)) (omega (arith, w.size, w.room)) w.count w.accepted w.unsigned

  -- and its length is answered
  told : Writable x buffer n → write_said (written x buffer).0 ≡ says n
  told w = ap (λ (a : WriteAnswer × List ℕ). write_said a.0) (writes w) ∙ ap says (image-length x ∙ sym w.size)

  -- and only then
  writable : write_said (written x buffer).0 ≡ says n → Writable x buffer n
  unfolding written checked
  writable e = go (checked x (length buffer)) refl e
    where
      go : (j : Judged) → checked x (length buffer) ≡ j → write_said (written_if (image x) buffer j).0 ≡ says n → Writable x buffer n
      go (Ok count) d c =
          let rules : List (ℕ × Found) = writer_rules x (length buffer) in
          let kept : Clear rules = clear rules (reviewed (image x)) count d in
          let well = reviewed-well (image x) count (after rules (reviewed (image x)) count d) in
          let long : length (image x) ≡ n = cc in
          let size : n ≡ image_length x = sym long ∙ image-length x in
          record {
            whole = kept.0;
            size = size;
            most = omega (arith, size, kept-under 65536 (image_length x) 0 kept.1.0);
            room = omega (arith, size, kept-under (length buffer) (image_length x) 0 kept.1.1.0);
            count = count;
            accepted = well.0;
            unsigned = well.1;
          }
      go (Err r) d c = let never : n ≡ n + 1 = cc in absurd (omega (arith, never))

  -- both directions: a length where it must be, and nowhere else
  pub written-exactly : (write_said (written x buffer).0 ≡ says n → Writable x buffer n) × (Writable x buffer n → write_said (written x buffer).0 ≡ says n)
  written-exactly = (writable, told)

-- ---- what is read of it
module _ (x : Parts) (buffer : List ℕ) (n : ℕ) (e : write_said (written x buffer).0 ≡ says n) where
  -- what the answer tells
  abbrev w : Writable x buffer n
  w = (written-exactly x buffer n).0 e

  -- the image has n bytes
  long : length (image x) ≡ n
  long = image-length x ∙ sym w.size

  -- the buffer holds the image at its front, and the rest is as it was
  pub written-holds : (written x buffer).1 ≡ image x ++ drop n buffer
  written-holds =
      ap (λ (a : WriteAnswer × List ℕ). a.1) (writes x buffer n w) ∙ ap (λ (m : ℕ). image x ++ drop m buffer) long

  -- the parts read from the buffer, whatever its length
  pub written-parts : Fits x → parts_of (written x buffer).1 ≡ x
  written-parts fits = ap parts_of written-holds ∙ parts-image x (drop n buffer) fits w.whole (omega (arith, w.size, w.most))

  -- the first m bytes of the buffer
  pub written-front : (m : ℕ) → n ≤ m → take m (written x buffer).1 ≡ image x ++ take (m - n) (drop n buffer)
  written-front m h =
      let far : m ≡ length (image x) + (m - n) = omega (arith, long) in
      ap (take m) written-holds ∙ ap (λ (i : ℕ). take i (image x ++ drop n buffer)) far ∙ take-append-add (image x) (drop n buffer) (m - n)

  -- they read back
  pub written-reads-back : Fits x → (m : ℕ) → n ≤ m → m ≤ 65536 → ReadsBack x (take m (written x buffer).1)
  written-reads-back fits m h most =
      let rest : List ℕ = take (m - n) (drop n buffer) in
      let size : length (image x ++ rest) ≤ 65536 = rw (length-append (image x) rest, length-take (m - n) (drop n buffer)) (omega (arith, long)) in
      subst (ReadsBack x) (sym (written-front m h))
      (record {
        count = w.count;
        accepted = front-accepted full (image x) rest w.count w.accepted size;
        unsigned = front-signed full (image x) rest w.count w.accepted ∙ w.unsigned;
        same = parts-image x rest fits w.whole (omega (arith, w.size, w.most));
      })

-- a refused call changes no byte
pub refused-unchanged : (x : Parts) (buffer : List ℕ) (m p : ℕ) → write_said (written x buffer).0 ≡ refused m p → (written x buffer).1 ≡ buffer
unfolding written
refused-unchanged x buffer m p e = go (checked x (length buffer)) e
  where
    go : (j : Judged) → write_said (written_if (image x) buffer j).0 ≡ refused m p → (written_if (image x) buffer j).1 ≡ buffer
    go (Ok count) c = cc
    go (Err r) c = refl

-- a buffer stays as long as it is, whatever is answered
pub written-length : (x : Parts) (buffer : List ℕ) → length (written x buffer).1 ≡ length buffer
written-length x buffer = go (write_said (written x buffer).0) refl
  where
    go : (w : Said ℕ) → write_said (written x buffer).0 ≡ w → length (written x buffer).1 ≡ length buffer
    go (says n) e =
        ap length (written-holds x buffer n e) ∙ length-append (image x) (drop n buffer)
        ∙ omega (arith, long x buffer n e, length-drop n buffer, (w x buffer n e).room)
    go (refused m p) e = ap length (refused-unchanged x buffer m p e)

-- so a whole buffer that is not too long reads back
pub buffer-reads-back : (x : Parts) (buffer : List ℕ) (n : ℕ) → write_said (written x buffer).0 ≡ says n → Fits x → length buffer ≤ 65536 → ReadsBack x (written x buffer).1
buffer-reads-back x buffer n e fits most =
    subst (ReadsBack x) (take_all 65536 (written x buffer).1 (omega (arith, written-length x buffer)))
    (written-reads-back x buffer n e fits 65536 (w x buffer n e).most (omega arith))
