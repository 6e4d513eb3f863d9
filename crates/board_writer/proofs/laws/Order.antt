-- What the writer answers, case by case in the order of its checks: 46, then 40, then 41, then what the reader says, then 45. Assumes nothing.
use Rattle.std.specs.Prelude.{ℕ, ◌%◌, ◌≤◌, ◌<◌, Bool, true, false, not, leb, List, [], ◌∷◌, ◌≡◌, length, Some, None, Ok, Err}
use Rattle.std.proofs.Math.Path.{refl, ap}
use Rattle.std.proofs.Common.{◌∙◌, arith, leb-true, leb-false}
use borrow.Author.Tests.{lt-ltb, le-ltb, eq-eqb, ne_eqb}
use Rattle.board_rules.specs.Judged.{judged}
use Rattle.board_rules.specs.Rules.{prom_sig_at}
use Rattle.board_writer.specs.Image.{image_length, image}
use Rattle.board_writer.specs.Parts.{Parts, given_size, rule46}
use Rattle.board_writer.specs.Written.{unsigned, reviewed, checked, written}
use Rattle.chain.specs.First.{when}
use Rattle.chain.proofs.laws.First.{when-nothing}
use Rattle.kinds.specs.Kinds.{full}
use Rattle.verdict.specs.Written.{written_if}
use Rattle.verdict.specs.Answers.{Judged, WriteAnswer}
use Rattle.verdict.specs.declared.Refusal.{Refusal}
use Rattle.verdict.proofs.laws.Accepted.{clear, after}

-- a refusal leaves the buffer as it was
abbrev refuses : List ℕ → ℕ → ℕ → WriteAnswer × List ℕ
refuses buffer n p = (Err (record { number = n; place = p }), buffer)

-- a run of whole seventeens
pub whole-records : (x : Parts) → length x.records % given_size ≡ 0 → rule46 x ≡ None
whole-records x h = ap (λ (b : Bool). when (not b) 0) (eq-eqb (length x.records % given_size) 0 h)

-- a length that is told is that of the image, and no more than 65,536; and where none is told, the image is over 65,536
pub measured : (x : Parts) (n : ℕ) → when (leb (image_length x) 65536) (image_length x) ≡ Some n → (image_length x ≡ n) × (n ≤ 65536)
measured x n = go (leb (image_length x) 65536) refl
  where
    go : (b : Bool) → leb (image_length x) 65536 ≡ b → when b (image_length x) ≡ Some n → (image_length x ≡ n) × (n ≤ 65536)
    go true d e = let same : image_length x ≡ n = cc in (same, omega (arith, same, leb-true _ _ d))
    go false d e = cc

pub too-long : (x : Parts) → when (leb (image_length x) 65536) (image_length x) ≡ None → 65536 < image_length x
too-long x e = leb-false _ _ (when-nothing (leb (image_length x) 65536) (image_length x) e)

module _ (x : Parts) (buffer : List ℕ) where
  -- 46
  pub written-odd : (length x.records % given_size ≡ 0 → ⊥) → written x buffer ≡ refuses buffer 46 0
  unfolding written checked
  written-odd h = rw (ne_eqb (length x.records % given_size) 0 h)

  module _ (good : rule46 x ≡ None) where
    -- 40
    pub written-over : 65536 < image_length x → written x buffer ≡ refuses buffer 40 0
    unfolding written checked
    written-over h = rw (good, lt-ltb 65536 (image_length x) h)

    module _ (fits : image_length x ≤ 65536) where
      -- 41
      pub written-short : length buffer < image_length x → written x buffer ≡ refuses buffer 41 0
      unfolding written checked
      written-short h = rw (good, le-ltb 65536 (image_length x) fits, lt-ltb (length buffer) (image_length x) h)

      module _ (room : image_length x ≤ length buffer) where
        -- what is said of the image that would result
        pub written-reviewed : written x buffer ≡ written_if (image x) buffer (reviewed (image x))
        unfolding written checked
        written-reviewed = rw (good, le-ltb 65536 (image_length x) fits, le-ltb (length buffer) (image_length x) room)

        -- what the reader refuses
        pub written-refused : (r : Refusal) → judged full (image x) ≡ Err r → written x buffer ≡ (Err r, buffer)
        unfolding reviewed
        written-refused r e = written-reviewed ∙ ap (λ (j : Judged). written_if (image x) buffer (unsigned (image x) j)) e

        module _ (count : ℕ) (e : judged full (image x) ≡ Ok count) where
          -- 45, at the start of the `$PromSig`
          pub written-signed : (p : ℕ) → prom_sig_at (image x) ≡ Some p → written x buffer ≡ refuses buffer 45 p
          unfolding reviewed
          written-signed p d = written-reviewed ∙ rw (e, d)

          -- and else the image
          pub written-image : prom_sig_at (image x) ≡ None → written x buffer ≡ written_if (image x) buffer (Ok count)
          unfolding reviewed
          written-image d = written-reviewed ∙ rw (e, d)

-- and back: a review that ends well: the reader accepts, and finds no `$PromSig`
pub reviewed-well : (s : List ℕ) (count : ℕ) → reviewed s ≡ Ok count → (judged full s ≡ Ok count) × (prom_sig_at s ≡ None)
unfolding reviewed
reviewed-well s count = go (judged full s)
  where
    go : (j : Judged) → unsigned s j ≡ Ok count → (j ≡ Ok count) × (prom_sig_at s ≡ None)
    go (Ok m) e =
        (after ((45, prom_sig_at s) ∷ []) (Ok m) count e, (clear ((45, prom_sig_at s) ∷ []) (Ok m) count e).0)
    go (Err r) e = (e, cc)
