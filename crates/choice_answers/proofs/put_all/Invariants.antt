-- `put_all` meets its contract: each turn leaves less of the input, at least by the four bytes of a list. Assumes nothing.
use Rattle.std.proofs.Common.{length}
use Rattle.choice_answers.proofs.put_all.Given as goal

abbrev pub decreases-loop-pair : goal.decreases-loop-pair
decreases-loop-pair g l = length l.rest
