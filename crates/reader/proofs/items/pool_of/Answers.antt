-- `items::pool_of` meets its contract: the arm of each format. Assumes nothing.
use Rattle.reader.proofs.items.pool_of.Goals as goal

pub returns-in-Tiny : goal.returns-in-Tiny
returns-in-Tiny c = rw c.in-Tiny.is c.pool_of.ensures

pub returns-in-Board : goal.returns-in-Board
returns-in-Board c = rw c.in-Board.is
