-- The bytes of a board image that no answer is about, in the words of paper 01. (All heads, fields and records are shown, and padding is zero.) Assumes nothing.
use Rattle.std.specs.Prelude.{ℕ, ◌+◌, ◌≤◌, ◌<◌, true, false, List, ◌≡◌}
use Rattle.board_layout.specs.Layout.{minor_at, shape_at, end_at, structures, records}
use Rattle.board_layout.specs.Places.{VerMajor, Length, head_size, Crc32}
use Rattle.board_layout.specs.Shapes.{knows, reserved_from, reserved_to, HasRecords}
use Rattle.board_layout.specs.declared.Records.{Records}
use Rattle.board_records.specs.Records.{record_from, record_to}
use Rattle.chain.specs.Inside.{Inside}
use Rattle.kinds.specs.declared.Kinds.{Kinds}

-- "Check numbers (the CRC-8 byte, and Crc32) are the check fields of demand 3": four bytes
abbrev pub InCheck : ℕ → Type 0
InCheck q = (Crc32 ≤ q) × (q < Crc32 + 4)

module _ (k : Kinds) (s : List ℕ) where
  -- the structure at p: whether the list knows it; known with a VerMinor above 0, which lifts rule 32 ("reserved byte nonzero .. with VerMinor 0")
  abbrev pub Known : ℕ → Type 0
  Known p = knows k (shape_at s p) ≡ true

  abbrev pub Unknown : ℕ → Type 0
  Unknown p = knows k (shape_at s p) ≡ false

  abbrev pub Raised : ℕ → Type 0
  Raised p = Known p × (0 < minor_at s p)

  -- its Length covers the row Reserved of its table: "A field not wholly within its structure's Length is not read"
  abbrev pub Covers : ℕ → Type 0
  Covers p = p + reserved_to (shape_at s p) ≤ end_at s p

  -- the place lies "inside" a structure that the list does not know: in "its data: .. past the generic head"
  abbrev pub InsideUnknown : ℕ → Type 0
  InsideUnknown q = Inside (structures s) Unknown (λ p. p + head_size) (end_at s) q

  -- in the row Reserved of a record of the structure at p
  abbrev pub InRecord : Records → ℕ → ℕ → Type 0
  InRecord which q p = Inside (records which s p) (λ r. Unit {0}) (λ r. r + record_from which) (λ r. r + record_to which) q

  pub data NotShown (q : ℕ) : Type 0 where
    -- "Check numbers" are never shown
    check : InCheck q → NotShown q
    -- "An item not known shows only its kind, place and length."
    unknown : InsideUnknown q → NotShown q
    -- "A known one shows each field of its table but reserved bytes": the row Reserved of its table, and of its records'
    reserved : Inside (structures s) (λ p. Raised p × Covers p) (λ p. p + reserved_from (shape_at s p)) (λ p. p + reserved_to (shape_at s p)) q → NotShown q
    record_reserved : (which : Records) → Inside (structures s) (λ p. Raised p × HasRecords which (shape_at s p) × InRecord which q p) (λ p. p) (end_at s) q → NotShown q
    -- "what follows the fields is shown by place and length", and does not consist of records
    following : Inside (structures s) (λ p. Known p × ((which : Records) → HasRecords which (shape_at s p) → ⊥)) (λ p. p + reserved_to (shape_at s p)) (end_at s) q
        → NotShown q

  -- VerMajor and VerMinor of a structure that the list does not know. (Request R-10 shows them.)
  abbrev pub VersionUnknown : ℕ → Type 0
  VersionUnknown q = Inside (structures s) Unknown (λ p. p + VerMajor) (λ p. p + Length) q
