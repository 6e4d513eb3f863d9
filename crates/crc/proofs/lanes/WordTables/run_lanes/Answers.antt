-- `crc::lanes::WordTables::run_lanes` meets its contract. The blocks, and on from there (`run-chunks`).
-- Assumes nothing.
use Rattle.std.proofs.Common.{◌/◌, length}
use Rattle.crc.proofs.Runs.{run-chunks}
use Rattle.crc.proofs.lanes.WordTables.run_lanes.Goals as goal

pub returns : goal.returns
returns c = let s = c.args.s.now in
    rw (c.run_words.ensures, c.run_blocks.ensures, c.as_chunks.ensures.front, c.as_chunks.ensures.back) (run-chunks 32 (length s / 32) c.args.c s)
