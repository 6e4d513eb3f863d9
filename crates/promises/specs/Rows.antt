-- What the tables of the papers define at the place of an item, over any format, and what is shown of it under the same labels. Demand 2: "Each field shown is the
-- field those rules define." Assumes nothing.
use Rattle.std.specs.Prelude.{ℕ, cond, List, []}
use Rattle.board.specs.Shown as board
use Rattle.board_layout.specs.Layout.{shape_at}
use Rattle.kinds.specs.declared.Kinds.{Kinds}
use Rattle.octets.specs.Rows.{Field}
use Rattle.reader.specs.Formats.{known}
use Rattle.reader.specs.Values as reader
use Rattle.reader.specs.Values.{FieldValues}
use Rattle.reader.specs.declared.Format.{Format}
use Rattle.reader.specs.declared.Format.TheVariants.{Tiny, Board}
use Rattle.tiny.specs.Shown as tiny

-- the fields that are shown; an item not known shows none
abbrev pub labelled : FieldValues → List Field
labelled (reader.tiny-fields x) = tiny.labelled x
labelled (reader.board-fields l) = l
labelled reader.not_known = []

-- the rows of the item at p
abbrev pub rows_at : Format → Kinds → List ℕ → ℕ → List Field
rows_at Tiny k s p = tiny.item_shown k s p
rows_at Board k s p = board.structure_shown s p (shape_at s p)

-- where the reader knows it
abbrev pub known_rows : Format → Kinds → List ℕ → ℕ → List Field
known_rows f k s p = cond (known f k s p) (rows_at f k s p) []
