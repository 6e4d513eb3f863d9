-- `crc::words::WordTables::half` meets its contract. Four bytes may be added all at once (`run-spelled`), and nothing stands above them and the register.
-- Assumes nothing.
use Rattle.std.proofs.Common.{sym, ◌∙◌, arith}
use Rattle.crc.proofs.Loads.{little-four}
use Rattle.crc.proofs.Lookup.{none-above}
use Rattle.crc.proofs.Runs.{run-spelled}
use Rattle.crc.proofs.words.WordTables.half.Goals as goal

pub lookup-requires : goal.lookup-requires
lookup-requires c = (omega arith, (omega arith, none-above 32 c.args.c c.from_le_bytes.result (omega arith) (omega arith)))

pub returns : goal.returns
returns c = let w = c.args.w.now in
    c.lookup.ensures ∙ sym (run-spelled c.args.c w 4 c.from_le_bytes.result c.told-w c.fits-w (c.from_le_bytes.ensures ∙ little-four w c.told-w))
