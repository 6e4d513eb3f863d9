-- What a table holds, which the types of tables state of their entries, and what four lanes stand for. No contract of a public function cites this.
-- Assumes nothing.
use Rattle.std.specs.Prelude.{◌≡◌, List, ℕ, ◌+◌, ◌-◌, ◌*◌, ◌^◌, ◌<◌, get_or}
use Rattle.std.specs.Int.Bits.{bit_xor}
use Rattle.crc.specs.Crc8.{eight_zeros}
use Rattle.crc.specs.Crc32.{shifts}

-- the tables of n shifts, one for each part of w bits of a word of 64 bits: table j has at v what n shifts make of v at place j. The first w j of them only
-- bring v down from there, so it is what the others make of v
pub record Table (w n : ℕ) (t : List ℕ) : Type 0 where
  pub entry : (j v : ℕ) → w * j < 64 → v < 2 ^ w → get_or t (2 ^ w * j + v) 0 ≡ shifts (n - w * j) v

-- the table of CRC-8: what eight zero bits leave of each byte
pub record Remainders (t : List ℕ) : Type 0 where
  pub entry : (v : ℕ) → v < 256 → get_or t v 0 ≡ eight_zeros v

-- four lanes stand for the register R: each is behind it by the 64 bits of each lane that comes after
pub record Stand (a0 a1 a2 a3 R : ℕ) : Type 0 where
  pub stands : bit_xor (shifts 192 a0) (bit_xor (shifts 128 a1) (bit_xor (shifts 64 a2) a3)) ≡ shifts 192 R
