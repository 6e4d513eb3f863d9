-- `lines::put_strings` meets its contract: each turn goes on by a string, which has at least one byte and ends within the pool. Assumes nothing.
use Rattle.std.proofs.Common.{◌-◌, ◌≤◌}
use Rattle.tiny_list.proofs.lines.put_strings.Given as goal

abbrev pub invariant-loop-at : goal.invariant-loop-at
invariant-loop-at g l = l.number ≤ l.at

abbrev pub decreases-loop-at : goal.decreases-loop-at
decreases-loop-at g l = l.pool.to - l.at
