-- `crc::crc8_table::RemainderTable::step` meets its contract. Eight zero bits after the sum.
-- Assumes nothing.
use Rattle.crc.specs.Crc8.{step8}
use Rattle.crc.proofs.crc8_table.RemainderTable.step.Goals as goal

pub returns : goal.returns
unfolding step8
returns c = c.left.ensures
