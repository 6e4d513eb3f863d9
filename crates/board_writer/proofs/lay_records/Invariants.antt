-- `lay_records` meets its contract: with each turn the image holds one record more. Assumes nothing.
use Rattle.std.proofs.Common.{◌-◌, take}
use Rattle.board_writer.proofs.laws.Building.{Laying}
use Rattle.board_writer.proofs.lay_records.Given as goal

abbrev pub invariant-loop-k : goal.invariant-loop-k
invariant-loop-k l = Laying l.records l.block l.at (take l.at l.initial.image) l.k l.image

abbrev pub decreases-loop-k : goal.decreases-loop-k
decreases-loop-k l = l.k-end - l.k
