-- `crc::lanes::WordTables::run_blocks` meets its contract. The loop: the lanes stand for the register after the blocks so far.
-- Assumes nothing.
use Rattle.std.proofs.Common.{take, fold}
use Rattle.crc.specs.Crc32.{run32}
use Rattle.crc.specs.Tables.{Stand}
use Rattle.crc.proofs.lanes.WordTables.run_blocks.Given as goal

abbrev pub invariant-loop-block : goal.invariant-loop-block
invariant-loop-block l = Stand l.lanes.a0 l.lanes.a1 l.lanes.a2 l.lanes.a3 (fold run32 l.c (take l.block-index l.others))
