-- `run::run_size` meets its contract. Assumes nothing.
use Rattle.std.proofs.Common.{rules}
use Rattle.tiny_writer.specs.Run.{run_size}
use Rattle.tiny_writer.proofs.run.run_size.Goals as goal

pub returns : goal.returns
unfolding run_size
returns c = search rules
