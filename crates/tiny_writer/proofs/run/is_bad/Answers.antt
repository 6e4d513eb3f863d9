-- `run::is_bad` meets its contract: the tests in their order. Assumes nothing.
use Rattle.std.proofs.Common.{rules}
use Rattle.tiny_writer.specs.Run.{run_size, bad_item}
use Rattle.tiny_writer.proofs.run.is_bad.Goals as goal

pub returns-then-pool : goal.returns-then-pool
unfolding bad_item
returns-then-pool c = search rules

pub returns-else-pool : goal.returns-else-pool
unfolding bad_item run_size
returns-else-pool c = search rules
