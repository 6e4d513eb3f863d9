-- `crc::lanes::WordTables::run_blocks` meets its contract. Where the loop begins the first lane has the register.
-- Assumes nothing.
use Rattle.crc.proofs.Stand.{lanes-start}
use Rattle.crc.proofs.lanes.WordTables.run_blocks.Goals as goal

pub loop-block-init : goal.loop-block-init
loop-block-init c = lanes-start c.args.c
