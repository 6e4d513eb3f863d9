-- Two images that a reader cannot tell apart. Demand 3: "any two accepted images of one length that differ only inside items that it does not know and in
-- their check fields". Assumes nothing.
use Rattle.std.specs.Prelude.{ℕ, ◌+◌, ◌≤◌, ◌<◌, Bool, false, ◌&&◌, ◌||◌, List, ◌⊎◌, ◌≡◌, eqb}
use Rattle.board_layout.specs.Layout.{signature_at, major_at}
use Rattle.board_layout.specs.Places.{Crc32}
use Rattle.board_layout.specs.Shapes.{on_every_list}
use Rattle.chain.specs.Inside.{Inside}
use Rattle.kinds.specs.Kinds.{listed}
use Rattle.kinds.specs.declared.Kind.TheVariants.{Tag, Signature}
use Rattle.kinds.specs.declared.Kinds.{Kinds}
use Rattle.octets.specs.Bytes.{byte}
use Rattle.reader.specs.Formats.{places, data_at, data_end, image_length}
use Rattle.reader.specs.declared.Format.{Format}
use Rattle.reader.specs.declared.Format.TheVariants.{Tiny, Board}
use Rattle.tiny_layout.specs.Layout.{check_place}

-- whether a list has the kind and version of the item at p. Of boards: "count as on every list", "A listed board structure counts as known only with VerMajor 1."
abbrev pub on_list : Format → Kinds → List ℕ → ℕ → Bool
on_list Tiny k s p = listed k (Tag (byte s p))
on_list Board k s p = on_every_list (signature_at s p) || (listed k (Signature (signature_at s p)) && eqb (major_at s p) 1)

-- "its list lacks that kind and version"
abbrev pub Lacks : Format → Kinds → List ℕ → ℕ → Type 0
Lacks f k s p = on_list f k s p ≡ false

-- "Check numbers (the CRC-8 byte, and Crc32) are the check fields of demand 3"
abbrev pub InCheck : Format → List ℕ → ℕ → Type 0
InCheck Tiny s q = q ≡ check_place s
InCheck Board s q = (Crc32 ≤ q) × (q < Crc32 + 4)

-- ""Inside" an item means its data: past the tag and length byte, or past the generic head."
abbrev pub InsideUnknown : Format → Kinds → List ℕ → ℕ → Type 0
InsideUnknown f k s q = Inside (places f s) (Lacks f k s) (data_at f s) (data_end f s) q

-- "An image's length is L or StructLen; what is lent past it may differ."
pub record SameOutside (f : Format) (k : Kinds) (s t : List ℕ) : Type 0 where
  pub length : image_length f s ≡ image_length f t
  pub bytes : (q : ℕ) → q < image_length f s → (byte s q ≡ byte t q) ⊎ (InCheck f s q ⊎ InsideUnknown f k s q)
