-- `run::measure` meets its contract. The loop's invariant: the number of the first bad item from here on is that of the whole run, and the bytes so far and
-- those from here on are those of the whole run. Assumes nothing.
use Rattle.std.proofs.Common.{◌≡◌, ◌+◌, ◌-◌, ◌≤◌, length}
use Rattle.chain.specs.Chain.{chain}
use Rattle.chain.specs.Number.{number_from}
use Rattle.tiny_writer.specs.Building.{laid_from}
use Rattle.tiny_writer.specs.Run.{run_next, bad_item, rule46}
use Rattle.tiny_writer.proofs.run.measure.Given as goal

abbrev pub invariant-loop-at : goal.invariant-loop-at
invariant-loop-at l = (number_from l.number (bad_item l.items) (chain (run_next l.items) (length l.items) l.at) ≡ rule46 l.items)
    × (l.bytes + length (laid_from l.items l.at) ≡ length (laid_from l.items 0)) × (l.number ≤ l.at) × (l.bytes ≤ l.at) × (l.at ≤ length l.items)

abbrev pub decreases-loop-at : goal.decreases-loop-at
decreases-loop-at l = length l.items - l.at
