-- `lines::put_items` meets its contract: it ends, since each structure starts further on. Assumes nothing.
use Rattle.std.proofs.Common.{◌-◌}
use Rattle.board_list.proofs.lines.put_items.Given as goal

abbrev pub decreases-loop-at : goal.decreases-loop-at
decreases-loop-at g l = l.end - l.at
