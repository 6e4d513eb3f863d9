-- `layout::items_end` meets its contract: the arm of each format. Assumes nothing.
use Rattle.reader.proofs.layout.items_end.Goals as goal

pub returns-in-Tiny : goal.returns-in-Tiny
returns-in-Tiny c = rw c.in-Tiny.is c.check_place.ensures

pub returns-in-Board : goal.returns-in-Board
returns-in-Board c = rw c.in-Board.is c.struct_len.ensures
