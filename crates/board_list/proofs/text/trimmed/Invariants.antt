-- `text::trimmed` meets its contract: it ends, since each turn leaves a byte less. Assumes nothing.
use Rattle.std.proofs.Common.{length}
use Rattle.board_list.proofs.text.trimmed.Given as goal

abbrev pub decreases-loop-rest : goal.decreases-loop-rest
decreases-loop-rest l = length l.rest
