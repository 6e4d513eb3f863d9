-- `steps::item_at` meets its contract: the arm of each format. Assumes nothing.
use Rattle.std.proofs.Common.{ap}
use Rattle.reader.specs.declared.Item.{Item}
use Rattle.reader.proofs.steps.item_at.Goals as goal

pub returns-in-Tiny : goal.returns-in-Tiny
returns-in-Tiny c = rw c.in-Tiny.is (ap Item.Tiny c.item_at.ensures)

pub returns-in-Board : goal.returns-in-Board
returns-in-Board c = rw c.in-Board.is (ap Item.Board c.item_at-in-Board.ensures)
