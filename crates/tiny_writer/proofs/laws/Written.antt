-- What is written is accepted and reads back: the buffer after a call that answers a length is accepted with the full list, the count is that of the run's
-- items and the pool, and the run and the pool read from it are those given. Assumes nothing.
use Rattle.std.specs.Prelude.{ℕ, ◌≤◌, List, ◌++◌, ◌≡◌, length, None, Ok, Err}
use Rattle.std.proofs.Math.Path.{refl, ap, subst}
use Rattle.std.proofs.Common.{sym, ◌∙◌, arith, length-drop, length-append}
use Rattle.std.proofs.Math.ListN.{drop, get_or-append}
use Rattle.kinds.specs.Kinds.{full}
use Rattle.tiny_layout.specs.Layout.{total}
use Rattle.tiny_rules.specs.Judged.{judged}
use Rattle.tiny_rules.proofs.laws.Accepted.{accepted-count, total-within}
use Rattle.tiny_rules.proofs.laws.Same.{judged-same}
use Rattle.chain.proofs.laws.Checks.{kept-under}
use Rattle.tiny_writer.specs.Image.{Parts, image_length, image}
use Rattle.tiny_writer.specs.ReadsBack.{ReadsBack}
use Rattle.tiny_writer.specs.Run.{rule46}
use Rattle.tiny_writer.specs.Written.{writer_rules, checked, written}
use Rattle.tiny_writer.proofs.laws.Image.{image-length, image-count, parts-image}
use Rattle.verdict.specs.Said.{Said, says, refused, write_said}
use Rattle.verdict.specs.Written.{written_if}
use Rattle.verdict.specs.Answers.{Judged}
use Rattle.verdict.proofs.laws.Accepted.{Clear, clear, after}

-- the image of a run without a bad item, where it is accepted: it reads back, whatever bytes follow it
image-reads-back :
    (x : Parts) (rest : List ℕ) (count : ℕ) → rule46 x.run ≡ None → judged full (image x) ≡ Ok count → ReadsBack x (image x ++ rest)
image-reads-back x rest count good e =
    record {
      accepted = carried ∙ ap Ok (sym (accepted-count full (image x ++ rest) count carried) ∙ image-count x rest good);
      same = parts-image x rest good;
    }
  where
    within : (4 ≤ total (image x)) × (total (image x) ≤ length (image x))
    within = total-within full (image x) count e

    carried : judged full (image x ++ rest) ≡ Ok count
    carried =
        sym
        (judged-same (image x) (image x ++ rest) within.0 (λ q _ h. sym (get_or-append (image x) rest 0 q (omega (arith, within.1))))
        within.1 (omega (arith, within.1, length-append (image x) rest)) full)
        ∙ e

module _ (x : Parts) (buffer : List ℕ) (n : ℕ) (e : write_said (written x buffer).0 ≡ says n) where
  -- the check accepts, and the image's length is answered
  record Passed : Type 0 where
    count : ℕ
    told : checked x (length buffer) ≡ Ok count
    size : length (image x) ≡ n

  passed : Passed
  unfolding written
  passed = go (checked x (length buffer)) refl e
    where
      go : (j : Judged) → checked x (length buffer) ≡ j → write_said (written_if (image x) buffer j).0 ≡ says n → Passed
      go (Ok count) d c = record { count = count; told = d; size = cc }
      go (Err r) d c = record { count = 0; told = cc; size = cc }

  rules-clear : Clear (writer_rules x (length buffer))
  unfolding checked
  rules-clear = clear (writer_rules x (length buffer)) (judged full (image x)) passed.count passed.told

  image-accepted : judged full (image x) ≡ Ok passed.count
  unfolding checked
  image-accepted = after (writer_rules x (length buffer)) (judged full (image x)) passed.count passed.told

  -- no rule of the writer is broken: what that says in numbers
  pub written-within : (rule46 x.run ≡ None) × (n ≡ image_length x) × (n ≤ 255) × (n ≤ length buffer)
  written-within =
      let size : n ≡ image_length x = sym passed.size ∙ image-length x in (
        rules-clear.0,
        size,
        omega (arith, size, kept-under 255 (image_length x) 0 rules-clear.1.0),
        omega (arith, size, kept-under (length buffer) (image_length x) 0 rules-clear.1.1.0),
      )

  -- the buffer holds the image at its front, and the rest is as it was
  pub written-holds : (written x buffer).1 ≡ image x ++ drop n buffer
  unfolding written
  written-holds =
      ap (λ (j : Judged). (written_if (image x) buffer j).1) passed.told ∙ ap (λ (m : ℕ). image x ++ drop m buffer) passed.size

  -- and it reads back
  pub written-reads-back : ReadsBack x (written x buffer).1
  unfolding written
  written-reads-back =
      subst (λ (j : Judged). ReadsBack x (written_if (image x) buffer j).1) (sym passed.told)
      (image-reads-back x (drop (length (image x)) buffer) passed.count rules-clear.0 image-accepted)

-- a refused call changes no byte
pub refused-unchanged : (x : Parts) (buffer : List ℕ) (m p : ℕ) → write_said (written x buffer).0 ≡ refused m p → (written x buffer).1 ≡ buffer
unfolding written
refused-unchanged x buffer m p e = go (checked x (length buffer)) e
  where
    go : (j : Judged) → write_said (written_if (image x) buffer j).0 ≡ refused m p → (written_if (image x) buffer j).1 ≡ buffer
    go (Ok count) c = cc
    go (Err r) c = refl

-- a buffer stays as long as it is, whatever is answered
pub written-length : (x : Parts) (buffer : List ℕ) → length (written x buffer).1 ≡ length buffer
written-length x buffer = go (write_said (written x buffer).0) refl
  where
    go : (w : Said ℕ) → write_said (written x buffer).0 ≡ w → length (written x buffer).1 ≡ length buffer
    go (says n) e =
        let w = written-within x buffer n e in
        ap length (written-holds x buffer n e) ∙ length-append (image x) (drop n buffer)
        ∙ omega (arith, image-length x, length-drop n buffer, w.1, w.3)
    go (refused m p) e = ap length (refused-unchanged x buffer m p e)
