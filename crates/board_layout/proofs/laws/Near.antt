-- How far a structure and a step of the walk reach, whatever the bytes: less than 2 ^ 32, and 2 ^ 32 + 16. So the places fit a machine's number.
-- Assumes nothing.
use Rattle.std.specs.Prelude.{ℕ, ◌+◌, ◌^◌, ◌<◌, Bool, true, false, cond, List, ltb}
use Rattle.std.proofs.Common.{arith}
use Rattle.board_layout.specs.Layout.{length_at, end_at, covers, next, map_at, board_at}
use Rattle.board_layout.specs.Places.{Length, head_size}
use Rattle.board_layout.proofs.laws.Layout.{round-most}
use Rattle.octets.specs.Bytes.{Octets}
use Rattle.octets.proofs.laws.Bytes.{le32-below}

covers-below : (n : ℕ) → n < 2 ^ 32 → covers n < 2 ^ 32
covers-below n h = go (ltb n head_size)
  where
    go : (b : Bool) → cond b head_size n < 2 ^ 32
    go true = omega arith
    go false = h

module _ (s : List ℕ) (octets : Octets s) where
  pub end-near : (p : ℕ) → end_at s p < p + 2 ^ 32
  unfolding end_at
  end-near p = omega (arith, le32-below s octets (p + Length))

  next-near : (p : ℕ) → next s p < p + 2 ^ 32 + 16
  unfolding next
  next-near p =
      omega (arith, round-most (p + covers (length_at s p)), covers-below (length_at s p) (le32-below s octets (p + Length)))

  pub map-near : map_at s < 2 ^ 32 + 16
  unfolding map_at
  map-near = omega (arith, next-near 0)

  pub board-near : board_at s < 2 ^ 33 + 32
  unfolding board_at
  board-near = omega (arith, map-near, next-near (map_at s))
