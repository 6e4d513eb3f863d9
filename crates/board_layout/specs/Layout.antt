-- Where structures and records lie in a board image. Paper 01: "Structures start on 16-byte boundaries, each with the generic 16-byte head of 000.
-- The next one starts at the end rounded up to 16. StructLen is the end of the last structure". The header is the structure at 0, and its Length is read.
-- Assumes nothing.
use Rattle.std.specs.Prelude.{ℕ, ◌+◌, ◌-◌, ◌*◌, ◌/◌, cond, List, eqb, ltb}
use Rattle.board_layout.specs.Places.{VerMajor, VerMinor, Length, head_size, StructLen, MapData, map_record_size, GpioData, gpio_record_size}
use Rattle.board_layout.specs.Shapes.{shape_of}
use Rattle.board_layout.specs.declared.Head.{Head}
use Rattle.board_layout.specs.declared.Header.{Header}
use Rattle.board_layout.specs.declared.Header.TheVariants.{Short, Long}
use Rattle.board_layout.specs.declared.Records.{Records}
use Rattle.board_layout.specs.declared.Records.TheVariants.{Map, Gpio}
use Rattle.board_layout.specs.declared.Shape.{Shape}
use Rattle.chain.specs.Chain.{chain, ahead}
use Rattle.octets.specs.Bytes.{le16, le32, le64}

-- the generic head of the structure at p
abbrev pub signature_at : List ℕ → ℕ → ℕ
signature_at s p = le64 s p

abbrev pub major_at : List ℕ → ℕ → ℕ
major_at s p = le16 s (p + VerMajor)

abbrev pub minor_at : List ℕ → ℕ → ℕ
minor_at s p = le16 s (p + VerMinor)

abbrev pub length_at : List ℕ → ℕ → ℕ
length_at s p = le32 s (p + Length)

abbrev pub head_at : List ℕ → ℕ → Head
head_at s p = record { signature = signature_at s p; major = major_at s p; minor = minor_at s p; length = length_at s p }

-- its table
unfoldable pub shape_at : List ℕ → ℕ → Shape
shape_at s p = shape_of (signature_at s p) (major_at s p)

-- StructLen: the end of the last structure, and how many bytes the image has
abbrev pub struct_len : List ℕ → ℕ
struct_len s = le32 s StructLen

-- where the structure at p ends
unfoldable pub end_at : List ℕ → ℕ → ℕ
end_at s p = p + length_at s p

-- rounded up to 16
unfoldable pub round16 : ℕ → ℕ
round16 n = (n + 15) / 16 * 16

-- where the next one starts: the end rounded up. (A Length under 16, which rule 23 refuses, counts as 16 here, so that the walk always goes on.)
abbrev pub covers : ℕ → ℕ
covers n = cond (ltb n head_size) head_size n

unfoldable pub next : List ℕ → ℕ → ℕ
next s p = round16 (p + covers (length_at s p))

-- the places of the structures: from 0 on, as long as they lie before StructLen
abbrev pub structures : List ℕ → List ℕ
structures s = chain (next s) (struct_len s) 0

-- the Lengths that a header may have. Paper 02, R-6: "Both 20h and 30h are now good."
abbrev pub header_length : Header → ℕ
header_length Short = 0x20
header_length Long = 0x30

-- which header has this Length; for a Length that neither has, which rule 21 refuses, the long one
abbrev pub header_with : ℕ → Header
header_with n = cond (eqb n (header_length Short)) Short Long

-- where the second structure, the third, and those after it start
unfoldable pub map_at : List ℕ → ℕ
map_at s = next s 0

unfoldable pub board_at : List ℕ → ℕ
board_at s = next s (map_at s)

unfoldable pub later_at : List ℕ → ℕ
later_at s = next s (board_at s)

-- the records of a map, from 30h on, of 20h bytes each; and of GPIO data, from 20h on, of 30h bytes each
abbrev pub data_offset : Records → ℕ
data_offset Map = MapData
data_offset Gpio = GpioData

abbrev pub record_size : Records → ℕ
record_size Map = map_record_size
record_size Gpio = gpio_record_size

-- their places in the structure at p, up to its end
unfoldable pub records : Records → List ℕ → ℕ → List ℕ
records which s p = chain (ahead (record_size which)) (end_at s p) (p + data_offset which)

-- n of the map's Length, 30h + 20h n
abbrev pub map_count : List ℕ → ℕ → ℕ
map_count s m = (length_at s m - MapData) / map_record_size
