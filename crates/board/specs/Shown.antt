-- What the tables of layout paper 000 define at a place: under each label that is shown, the number or the bytes at its row. Assumes nothing.
use Rattle.std.specs.Prelude.{ℕ, List}
use Rattle.board_layout.specs.Layout.{length_at, record_size}
use Rattle.board_layout.specs.Tables.{table, record_table}
use Rattle.board_layout.specs.declared.Records.{Records}
use Rattle.board_layout.specs.declared.Shape.{Shape}
use Rattle.octets.specs.Rows.{Field, number, shown_rows}

-- the structure at p, by its table
abbrev pub structure_shown : List ℕ → ℕ → Shape → List Field
structure_shown s p a = shown_rows number s p (length_at s p) (table a)

-- the record at r
abbrev pub record_shown : Records → List ℕ → ℕ → List Field
record_shown which s r = shown_rows number s r (record_size which) (record_table which)
