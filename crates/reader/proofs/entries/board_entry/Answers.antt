-- `entries::board_entry` meets its contract, field by field, each from the head. Assumes nothing.
use Rattle.board_layout.specs.Layout.{shape_at}
use Rattle.reader.specs.Entries.{entry_at}
use Rattle.reader.proofs.entries.board_entry.Goals as goal

pub returns : goal.returns
unfolding entry_at shape_at
returns c = rw (c.is_known.ensures, c.shape_of.ensures, c.saturating_sub.ensures, c.head_at-head.ensures)
