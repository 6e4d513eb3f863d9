-- The layout of a tiny image. Paper 01: "Bytes: 56h, version 02h, total length L, items, check. L counts the whole image, header and check included".
-- "An item is a tag byte whose high four bits are the number n of data bytes. With n = 0 a length byte follows, then that many data bytes."
-- Assumes nothing.
use Rattle.std.specs.Prelude.{ℕ, ◌+◌, ◌-◌, ◌/◌, Bool, cond, List, eqb}
use Rattle.chain.specs.Chain.{chain}
use Rattle.octets.specs.Bytes.{byte}

-- the total length L
abbrev pub total : List ℕ → ℕ
total s = byte s 2

-- the place of the check byte, L - 1: the items end there
abbrev pub check_place : List ℕ → ℕ
check_place s = total s - 1

-- a long tag: its high four bits are 0, and a length byte follows
abbrev pub is_long : ℕ → Bool
is_long tag = eqb (tag / 16) 0

-- how many bytes come before the data: the tag, and the length byte of a long tag
unfoldable pub head_size : ℕ → ℕ
head_size tag = cond (is_long tag) 2 1

-- how many data bytes the item at p has: what the length byte of a long tag says, else the tag's high four bits
unfoldable pub data_length : List ℕ → ℕ → ℕ
data_length s p = cond (is_long (byte s p)) (byte s (p + 1)) (byte s p / 16)

-- where the data of the item at p begin
abbrev pub data_at : List ℕ → ℕ → ℕ
data_at s p = p + head_size (byte s p)

-- how many bytes the item at p has in all
abbrev pub size : List ℕ → ℕ → ℕ
size s p = head_size (byte s p) + data_length s p

-- where the item at p ends, and the next one starts
unfoldable pub next : List ℕ → ℕ → ℕ
next s p = p + size s p

-- the places of the items: end to end from place 3 up to the check byte
abbrev pub items : List ℕ → List ℕ
items s = chain (next s) (check_place s) 3
