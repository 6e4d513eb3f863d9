-- The data of each tag, row by row: paper 01, the table of tags. Offsets count from the first data byte. Assumes nothing.
use Rattle.std.specs.Prelude.{List, [], ◌∷◌, ◌++◌}
use Rattle.octets.specs.Rows.{Number, Bytes, Index, Rest, Row, row}
use Rattle.tiny_layout.specs.declared.Shape.{Shape}

-- 61, 62: "serial index, part index, major, minor, two characters"
abbrev pub identity : List Row
identity =
    row 0 Index "serial" ∷ row 1 Index "part" ∷ row 2 (Number 1) "major" ∷ row 3 (Number 1) "minor" ∷ row 4 (Bytes 2) "characters" ∷ []

abbrev pub table : Shape → List Row
-- 01: "pool: strings end to end"
table Shape.Pool = row 0 Rest "pool" ∷ []
-- 10: "string index"
table Shape.Serial = row 0 Index "serial" ∷ []
-- 11: "flags .. shown as one byte"
table Shape.Flags = row 0 (Number 1) "flags" ∷ []
-- 60: "six bytes of address"
table Shape.Address = row 0 (Bytes 6) "address" ∷ []
table Shape.Identity = identity
-- 80, 81: "as 61, but batch number (two bytes) at the end"
table Shape.Batched = identity ++ (row 6 (Number 2) "batch" ∷ [])
table Shape.Other = []
