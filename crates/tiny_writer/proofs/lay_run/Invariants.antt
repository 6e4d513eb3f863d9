-- `lay_run` meets its contract. The loop's invariant: what the image holds and the items from here on are the header and all items. Assumes nothing.
use Rattle.std.proofs.Common.{◌-◌, ◌++◌, length, take}
use Rattle.tiny_writer.specs.Building.{laid_from}
use Rattle.tiny_writer.proofs.laws.Holds.{Laying}
use Rattle.tiny_writer.proofs.lay_run.Given as goal

abbrev pub invariant-loop-at : goal.invariant-loop-at
invariant-loop-at l = Laying l.items 255 (take 3 l.initial.image ++ laid_from l.items 0) l.image l.at l.to

abbrev pub decreases-loop-at : goal.decreases-loop-at
decreases-loop-at l = length l.items - l.at
