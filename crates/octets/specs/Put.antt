-- Bytes put into a lent buffer. Assumes nothing.
use Rattle.std.specs.Prelude.{ℕ, ◌+◌, cond, List, ◌++◌, ◌≡◌, leb, length, take, drop}

-- the buffer with these bytes from place `at` on, the rest as it was; where they do not fit, the buffer as it was
unfoldable pub put : List ℕ → ℕ → List ℕ → List ℕ
put bytes at buffer =
    cond (leb (at + length bytes) (length buffer)) (take at buffer ++ bytes ++ drop (at + length bytes) buffer) buffer

-- a buffer that is being filled holds these bytes up to place `to`, and is of this length
pub record Holds (buffer : List ℕ) (to : ℕ) (bytes : List ℕ) (room : ℕ) : Type 0 where
  pub front : take to buffer ≡ bytes
  pub long : length buffer ≡ room
