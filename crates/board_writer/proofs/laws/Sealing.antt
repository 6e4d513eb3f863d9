-- How the code works out the check fields: the header is laid without them, then with CrcLength, then with both, each time over an image that is laid so far.
-- Assumes nothing.
use Rattle.std.specs.Prelude.{ℕ, ◌≤◌, ◌≡◌, length}
use mathlib.Core.List.{List, ◌++◌}
use Rattle.std.proofs.Common.{sym, ◌∙◌, arith, length-take-le}
use Rattle.std.proofs.Math.Path.{ap, ap₂}
use Rattle.std.proofs.Math.ListN.{take, drop}
use Rattle.board_layout.specs.Layout.{header_length}
use Rattle.board_layout.proofs.laws.Layout.{header-size}
use Rattle.board_rules.specs.Rules.{covered, check_over}
use Rattle.board_writer.specs.Image.{header_of, image_length, body, laid, crc_length, check, image}
use Rattle.board_writer.specs.Parts.{Parts}
use Rattle.board_writer.proofs.laws.Building.{holds-front}
use Rattle.board_writer.proofs.laws.Length.{header-length}
use Rattle.octets.specs.Put.{Holds}

-- the front of a block that holds bytes, as a part of it is lent
pub held-part : (block bytes : List ℕ) (n m room : ℕ) → m ≡ n → Holds block m bytes room → take n block ≡ bytes
held-part block bytes n m room e h =
    ap (λ (j : ℕ). take j block) (sym e) ∙ h.front

-- what a block has at its front, where the header is to be
pub front-long : (x : Parts) (block : List ℕ) → length block ≡ 65536 → length (take (header_length x.header) block) ≡ header_length x.header
front-long x block h = length-take-le (header_length x.header) block (omega (arith, h, (header-size x.header).1))

module _ (x : Parts) (n : ℕ) (e : image_length x ≡ n) (fits : n ≤ 65536) where
  -- a header laid over what is at the front of a block
  header-laid : (block two front : List ℕ) (c l : ℕ) → length front ≡ header_length x.header → two ≡ header_of x.header n c l x.version ++ drop (header_length x.header) block
      → Holds block (image_length x) (front ++ body x) 65536 → Holds two (image_length x) (laid x c l) 65536
  unfolding laid
  header-laid block two front c l f d h =
      holds-front block two front (header_of x.header (image_length x) c l x.version) (body x) (header_length x.header) (image_length x) 65536 f
      (header-length x.header (image_length x) c l x.version)
      (d ∙ ap (λ (k : ℕ). header_of x.header k c l x.version ++ drop (header_length x.header) block) (sym e)) (omega arith) h

  -- over another header
  header-again : (block two : List ℕ) (c l d m : ℕ) → two ≡ header_of x.header n c l x.version ++ drop (header_length x.header) block
      → Holds block (image_length x) (laid x d m) 65536 → Holds two (image_length x) (laid x c l) 65536
  unfolding laid
  header-again block two c l d m t h =
      header-laid block two (header_of x.header (image_length x) d m x.version) c l (header-length x.header (image_length x) d m x.version) t h

  module _ (front : List ℕ) {one two : List ℕ} (f : length front ≡ header_length x.header) (h : Holds one (image_length x) (front ++ body x) 65536)
      (t : two ≡ header_of x.header n 0 0 x.version ++ drop (header_length x.header) one) where
    -- without check fields
    pub laid-plain : Holds two (image_length x) (laid x 0 0) 65536
    laid-plain = header-laid one two front 0 0 f t h

    module _ {covers : ℕ} (c : covers ≡ covered (take n two)) where
      pub covers-is : covers ≡ crc_length x
      unfolding crc_length
      covers-is = c ∙ ap covered (held-part two (laid x 0 0) n (image_length x) 65536 e laid-plain)

      module _ {three : List ℕ} (u : three ≡ header_of x.header n 0 covers x.version ++ drop (header_length x.header) two) where
        -- with CrcLength
        pub laid-covers : Holds three (image_length x) (laid x 0 covers) 65536
        laid-covers = header-again two three 0 covers 0 0 u laid-plain

        -- with both: the image
        pub laid-image : {sum : ℕ} {four : List ℕ} → sum ≡ check_over (take n three) covers → four ≡ header_of x.header n sum covers x.version ++ drop (header_length x.header) three
            → Holds four n (image x) 65536
        unfolding image check
        laid-image {sum} {four} s w =
            let sum_is : sum ≡ check x =
            s ∙ ap (λ (l : List ℕ). check_over l covers) (held-part three (laid x 0 covers) n (image_length x) 65536 e laid-covers)
            ∙ ap (λ (m : ℕ). check_over (laid x 0 m) m) covers-is in
            let held = header-again three four sum covers 0 covers w laid-covers in
            record {
              front = ap (λ (m : ℕ). take m four) (sym e) ∙ held.front ∙ ap₂ (laid x) sum_is covers-is;
              long = held.long;
            }
