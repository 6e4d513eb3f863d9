-- `layout::next_from` meets its contract: the arm of each format. Assumes nothing.
use Rattle.tiny_layout.specs.Layout.{next}
use Rattle.reader.proofs.layout.next_from.Goals as goal

pub returns-in-Tiny : goal.returns-in-Tiny
unfolding next
returns-in-Tiny c = rw c.in-Tiny.is (rw c.item_size.ensures)

pub returns-in-Board : goal.returns-in-Board
returns-in-Board c = rw c.in-Board.is c.next_place.ensures
