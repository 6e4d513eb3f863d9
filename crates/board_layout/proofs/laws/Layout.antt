-- The walk's laws: rounding, and that each structure starts at least 16 bytes further on, on a boundary of 16, and not before the end of the one before.
-- Assumes nothing.
use Rattle.std.specs.Prelude.{ℕ, ◌+◌, ◌%◌, ◌≤◌, ◌<◌, Bool, true, false, cond, List, ◌⊎◌, ◌≡◌, refl, ltb, Some}
use Rattle.std.proofs.Common.{inl, inr, arith, le-ltb, ltb-true, ltb-false}
use Rattle.std.proofs.Math.Path.{ap}
use Rattle.board_layout.specs.Layout.{length_at, struct_len, end_at, round16, covers, next, structures, header_length, header_with, record_size}
use Rattle.board_layout.specs.Places.{head_size}
use Rattle.board_layout.specs.Shapes.{reserved_from, reserved_to}
use Rattle.board_layout.specs.declared.Header.{Header}
use Rattle.board_layout.specs.declared.Header.TheVariants.{Short, Long}
use Rattle.board_layout.specs.declared.Records.{Records}
use Rattle.board_layout.specs.declared.Records.TheVariants.{Map, Gpio}
use Rattle.board_layout.specs.declared.Shape.TheVariants.{Eeprom}
use Rattle.chain.specs.All.{All}
use Rattle.chain.specs.Chain.{chain}
use Rattle.chain.specs.Nth.{nth}
use Rattle.chain.proofs.laws.Chain.{chain-end, chain-more, chain-ind}
use Rattle.chain.proofs.laws.Nth.{nth-all}
use Rattle.chain.proofs.laws.Places.{chain-within}

-- ---- rounding
pub round-least : (n : ℕ) → n ≤ round16 n
unfolding round16
round-least n = omega arith

pub round-most : (n : ℕ) → round16 n < n + 16
unfolding round16
round-most n = omega arith

pub round-whole : (n : ℕ) → round16 n % 16 ≡ 0
unfolding round16
round-whole n = omega arith

pub round-same : (n : ℕ) → n % 16 ≡ 0 → round16 n ≡ n
unfolding round16
round-same n h = omega arith

pub covers-least : (n : ℕ) → (16 ≤ covers n) × (n ≤ covers n)
covers-least n = go (ltb n head_size) refl
  where
    go : (b : Bool) → ltb n head_size ≡ b → (16 ≤ cond b head_size n) × (n ≤ cond b head_size n)
    go true e = (omega arith, omega (arith, ltb-true n head_size e))
    go false e = (omega (arith, ltb-false n head_size e), omega arith)

pub covers-same : (n : ℕ) → 16 ≤ n → covers n ≡ n
covers-same n h = rw (le-ltb n head_size h)

module _ (s : List ℕ) where
  -- ---- the next place
  pub next-far : (p : ℕ) → p + 16 ≤ next s p
  unfolding next
  next-far p = omega (arith, round-least (p + covers (length_at s p)), (covers-least (length_at s p)).0)

  pub next-grows : (p : ℕ) → p < next s p
  next-grows p = omega (arith, next-far p)

  pub next-whole : (p : ℕ) → next s p % 16 ≡ 0
  unfolding next
  next-whole p = round-whole (p + covers (length_at s p))

  -- the next structure does not start before the end of this one
  pub end-next : (p : ℕ) → end_at s p ≤ next s p
  unfolding next end_at
  end-next p = omega (arith, round-least (p + covers (length_at s p)), (covers-least (length_at s p)).1)

  -- after a structure that has a head, it starts at the end rounded up
  pub next-round : (p : ℕ) → 16 ≤ length_at s p → next s p ≡ round16 (end_at s p)
  unfolding next end_at
  next-round p h = ap (λ (n : ℕ). round16 (p + n)) (covers-same (length_at s p) h)

  -- all places are multiples of 16
  pub places-whole : (end p : ℕ) → p % 16 ≡ 0 → All (λ q. q % 16 ≡ 0) (chain (next s) end p)
  places-whole end =
      chain-ind (next s) end next-grows (λ p. p % 16 ≡ 0 → All (λ q. q % 16 ≡ 0) (chain (next s) end p))
      (λ p h w. rw (chain-end (next s) end next-grows p h) tt)
      (λ p h ih w. rw (chain-more (next s) end next-grows p h) (w, ih (next-whole p)))

  -- each structure starts before StructLen
  pub structures-below : All (λ p. (0 ≤ p) × (p < struct_len s)) (structures s)
  structures-below = chain-within (next s) (struct_len s) next-grows 0

  pub structure-below : (n p : ℕ) → nth (structures s) n ≡ Some p → p < struct_len s
  structure-below n p e = (nth-all (λ q. (0 ≤ q) × (q < struct_len s)) (structures s) n p structures-below e).1

-- ---- a header has from 20h to 30h bytes, whole sixteens, and its Reserved row lies within them or starts where they end
pub header-size : (h : Header) → (0x20 ≤ header_length h) × (header_length h ≤ 0x30) × (header_length h % 16 ≡ 0)
header-size Short = (omega arith, omega arith, refl)
header-size Long = (omega arith, omega arith, refl)

pub header-row : (h : Header) → (reserved_to Eeprom ≤ header_length h) ⊎ (header_length h ≡ reserved_from Eeprom)
header-row Short = inr refl
header-row Long = inl (omega arith)

-- the header that has the Length of a header is that one
pub header-with : (h : Header) → header_with (header_length h) ≡ h
header-with Short = refl
header-with Long = refl

-- ---- records have from 20h to 30h bytes
pub record-size : (which : Records) → (0x20 ≤ record_size which) × (record_size which ≤ 0x30)
record-size Map = (omega arith, omega arith)
record-size Gpio = (omega arith, omega arith)
