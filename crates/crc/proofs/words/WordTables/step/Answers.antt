-- `crc::words::WordTables::step` meets its contract. Two parts of the sum go by the tables, and the rest comes down.
-- Assumes nothing.
use Rattle.std.proofs.Common.{refl, arith}
use Rattle.crc.specs.Crc32.{shifts, step32}
use Rattle.crc.proofs.words.WordTables.step.Goals as goal

pub lookup-requires : goal.lookup-requires
unfolding shifts
lookup-requires c = (omega arith, (omega arith, refl))

pub returns : goal.returns
unfolding step32
returns c = c.lookup.ensures
