-- What the writer answers, case by case in the order of its checks: 46, then 40, then 41, then what the reader says. Assumes nothing.
use Rattle.std.specs.Prelude.{ℕ, ◌≤◌, ◌<◌, List, ◌≡◌, length, Some, None, Err}
use borrow.Author.Tests.{lt-ltb, le-ltb}
use Rattle.kinds.specs.Kinds.{full}
use Rattle.tiny_rules.specs.Judged.{judged}
use Rattle.tiny_writer.specs.Image.{Parts, image_length, image}
use Rattle.tiny_writer.specs.Run.{rule46}
use Rattle.tiny_writer.specs.Written.{checked, written}
use Rattle.verdict.specs.Written.{written_if}

module _ (x : Parts) (buffer : List ℕ) where
  -- 46
  pub written-bad : (n : ℕ) → rule46 x.run ≡ Some n → written x buffer ≡ (Err (record { number = 46; place = n }), buffer)
  unfolding written checked
  written-bad n e = rw e

  module _ (good : rule46 x.run ≡ None) where
    -- 40
    pub written-over : 255 < image_length x → written x buffer ≡ (Err (record { number = 40; place = 0 }), buffer)
    unfolding written checked
    written-over h = rw (good, lt-ltb 255 (image_length x) h)

    module _ (fits : image_length x ≤ 255) where
      -- 41
      pub written-short : length buffer < image_length x → written x buffer ≡ (Err (record { number = 41; place = 0 }), buffer)
      unfolding written checked
      written-short h = rw (good, le-ltb 255 (image_length x) fits, lt-ltb (length buffer) (image_length x) h)

      -- what the reader says
      pub written-judged : image_length x ≤ length buffer → written x buffer ≡ written_if (image x) buffer (judged full (image x))
      unfolding written checked
      written-judged h = rw (good, le-ltb 255 (image_length x) fits, le-ltb (length buffer) (image_length x) h)
