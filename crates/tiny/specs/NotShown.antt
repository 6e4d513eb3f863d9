-- The bytes of a tiny image that no answer is about, in the words of paper 01. (All heads and fields are shown, and the pool as its strings.) Assumes nothing.
use Rattle.std.specs.Prelude.{ℕ, ◌+◌, true, false, List, ◌≡◌}
use Rattle.chain.specs.Inside.{Inside}
use Rattle.kinds.specs.Kinds.{listed}
use Rattle.kinds.specs.declared.Kind.TheVariants.{Tag}
use Rattle.kinds.specs.declared.Kinds.{Kinds}
use Rattle.octets.specs.Bytes.{byte}
use Rattle.tiny_layout.specs.Layout.{check_place, data_at, next, items}
use Rattle.tiny_layout.specs.Pool.{is_known}
use Rattle.tiny_layout.specs.Tags.{shape_of, index_count}

-- "Check numbers (the CRC-8 byte, and Crc32) are the check fields of demand 3"
abbrev pub InCheck : List ℕ → ℕ → Type 0
InCheck s q = q ≡ check_place s

module _ (k : Kinds) (s : List ℕ) where
  -- the place lies "inside" an item that the list does not know: in "its data: past the tag and length byte"
  abbrev pub InsideUnknown : ℕ → Type 0
  InsideUnknown q = Inside (items s) (λ p. is_known k s p ≡ false) (data_at s) (next s) q

  -- the index bytes of a known item
  abbrev pub InIndex : ℕ → Type 0
  InIndex q = Inside (items s) (λ p. is_known k s p ≡ true) (data_at s) (λ p. data_at s p + index_count (shape_of (byte s p))) q

  pub data NotShown (q : ℕ) : Type 0 where
    -- "Check numbers" are never shown
    check : InCheck s q → NotShown q
    -- "An item not known shows only its kind, place and length."
    unknown : InsideUnknown q → NotShown q
    -- "it .. is undecodable exactly when 01 is not on the list": then the numbers of strings are not shown
    index : listed k (Tag 0x01) ≡ false → InIndex q → NotShown q
