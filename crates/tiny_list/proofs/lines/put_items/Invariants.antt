-- `lines::put_items` meets its contract: each turn goes on by an item, which has at least one byte. Assumes nothing.
use Rattle.std.proofs.Common.{◌-◌}
use Rattle.tiny_list.proofs.lines.put_items.Given as goal

abbrev pub decreases-loop-at : goal.decreases-loop-at
decreases-loop-at g l = l.end - l.at
