-- `crc::words::WordTables::word` meets its contract. Eight bytes may be added all at once (`run-spelled`).
-- Assumes nothing.
use Rattle.std.proofs.Common.{sym, ◌∙◌}
use Rattle.crc.proofs.Loads.{little-eight}
use Rattle.crc.proofs.Runs.{run-spelled}
use Rattle.crc.proofs.words.WordTables.word.Goals as goal

pub returns : goal.returns
returns c = let w = c.args.w.now in
    c.shifted.ensures ∙ sym (run-spelled c.args.c w 8 c.from_le_bytes.result c.told-w c.fits-w (c.from_le_bytes.ensures ∙ little-eight w c.told-w))
