-- The tags and their data. Paper 01, the table of tags: 10; 11; 60; 61 and 62; 80 and 81; 01. Assumes nothing.
use Rattle.std.specs.Prelude.{ℕ, cond, eqb}
use Rattle.tiny_layout.specs.declared.Shape.{Shape}
use Rattle.tiny_layout.specs.declared.Shape.TheVariants.{Pool, Serial, Flags, Address, Identity, Batched, Other}

-- the row of a tag; any other tag has none
unfoldable pub shape_of : ℕ → Shape
shape_of tag =
    cond (eqb tag 0x01) Pool
    (cond (eqb tag 0x10) Serial
    (cond (eqb tag 0x11) Flags
    (cond (eqb tag 0x60) Address
    (cond (eqb tag 0x61) Identity
    (cond (eqb tag 0x62) Identity
    (cond (eqb tag 0x80) Batched
    (cond (eqb tag 0x81) Batched Other)))))))

-- how many string indexes the data begin with: 10 has the serial's, 61, 62, 80 and 81 the serial's and the part's
abbrev pub index_count : Shape → ℕ
index_count Pool = 0
index_count Serial = 1
index_count Flags = 0
index_count Address = 0
index_count Identity = 2
index_count Batched = 2
index_count Other = 0

-- how many data bytes the row's fields take
abbrev pub field_bytes : Shape → ℕ
field_bytes Pool = 0
field_bytes Serial = 1
field_bytes Flags = 1
field_bytes Address = 6
field_bytes Identity = 6
field_bytes Batched = 8
field_bytes Other = 0
