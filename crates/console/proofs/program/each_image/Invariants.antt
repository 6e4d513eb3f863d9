-- `program::each_image` meets its contract: each turn leaves less of the run, at least by the bytes in front of an image. Assumes nothing.
use Rattle.std.proofs.Common.{length}
use Rattle.console.proofs.program.each_image.Given as goal

abbrev pub decreases-loop-head : goal.decreases-loop-head
decreases-loop-head g l = length l.rest
