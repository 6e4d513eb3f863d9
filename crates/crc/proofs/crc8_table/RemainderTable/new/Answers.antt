-- `crc::crc8_table::RemainderTable::new` meets its contract. The entries are computed one by one (`values`).
-- Assumes nothing.
use Rattle.crc.specs.Crc8.{reduce, bring}
use Rattle.crc.proofs.Entries.{remainders-right}
use Rattle.crc.proofs.crc8_table.RemainderTable.new.Goals as goal

pub invariant_of-result : goal.invariant_of-result
unfolding reduce bring
invariant_of-result c = record { right = remainders-right }
