-- What a buffer holds once bytes are put into it: at its front, and up to the last byte put; and a loop that puts them one by one.
-- Assumes nothing.
use Rattle.std.specs.Prelude.{ℕ, ◌+◌, ◌≤◌, ◌<◌, List, ◌++◌, ◌≡◌, length, take, drop, set}
use Rattle.std.proofs.Common.{sym, ap, ◌∙◌, zero-add, add-one, arith, le-leb}
use Rattle.std.proofs.lemmas.List.Edits.{length-paste, take-paste}
use Rattle.std.proofs.Math.Seq.{take-length, paste, paste-suc}
use Rattle.std.proofs.lemmas.Bool.{lt-leb}
use Rattle.octets.specs.Bytes.{byte}
use Rattle.octets.specs.Put.{put, Holds}

-- where the bytes do not fit, nothing changes
pub put-none : (bytes : List ℕ) (at : ℕ) (buffer : List ℕ) → length buffer < at + length bytes → put bytes at buffer ≡ buffer
unfolding put
put-none bytes at buffer h = rw (lt-leb _ _ h)

module _ (bytes : List ℕ) (at : ℕ) (buffer : List ℕ) (fits : at + length bytes ≤ length buffer) where
  -- they fit
  pub put-fits : put bytes at buffer ≡ take at buffer ++ bytes ++ drop (at + length bytes) buffer
  unfolding put
  put-fits = rw (le-leb _ _ fits)

  -- in lib.Seq's words: all of them pasted
  put-paste : put bytes at buffer ≡ paste buffer at bytes (length bytes)
  put-paste = put-fits ∙ ap (λ (l : List ℕ). take at buffer ++ l ++ drop (at + length bytes) buffer) (sym (take-length bytes))

  -- the buffer is as long as before
  pub put-length : length (put bytes at buffer) ≡ length buffer
  put-length = ap length put-paste ∙ length-paste buffer at bytes (length bytes) fits (omega arith)

  -- up to the last of them: what came before, and the bytes
  pub put-front : take (at + length bytes) (put bytes at buffer) ≡ take at buffer ++ bytes
  put-front =
      ap (take (at + length bytes)) put-paste ∙ take-paste buffer at bytes (length bytes) (omega arith) (omega arith)
      ∙ ap (λ (l : List ℕ). take at buffer ++ l) (take-length bytes)

  -- ---- a loop that stores byte i at `at + i`, with the invariant `b ≡ paste buffer at bytes i`: a turn, and its end
  pub put-turn : (i : ℕ) (b : List ℕ) → i < length bytes → b ≡ paste buffer at bytes i → set b (at + i) (byte bytes i) ≡ paste buffer at bytes (i + 1)
  put-turn i b h e =
      ap (λ (l : List ℕ). set l (at + i) (byte bytes i)) e ∙ paste-suc buffer at bytes i 0 (omega arith) h
      ∙ ap (paste buffer at bytes) (sym (add-one i))

  pub put-done : (i : ℕ) (b : List ℕ) → i ≡ length bytes → b ≡ paste buffer at bytes i → b ≡ put bytes at buffer
  put-done i b h e = e ∙ ap (paste buffer at bytes) h ∙ sym put-paste

-- at the front of a buffer
pub put-first : (bytes buffer : List ℕ) → length bytes ≤ length buffer → put bytes 0 buffer ≡ bytes ++ drop (length bytes) buffer
put-first bytes buffer h =
    put-fits bytes 0 buffer (omega arith) ∙ ap (λ (n : ℕ). bytes ++ drop n buffer) (zero-add (length bytes))

-- a buffer that holds bytes, and more bytes put where they end
pub holds-more : (buffer bytes more : List ℕ) (to room : ℕ) → Holds buffer to bytes room → to + length more ≤ room
    → Holds (put more to buffer) (to + length more) (bytes ++ more) room
holds-more buffer bytes more to room h fits =
    let f : to + length more ≤ length buffer = omega (arith, h.long) in
    record {
      front = put-front more to buffer f ∙ ap (λ (l : List ℕ). l ++ more) h.front;
      long = put-length more to buffer f ∙ h.long;
    }
