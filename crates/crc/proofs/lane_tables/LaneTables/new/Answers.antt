-- `crc::lane_tables::LaneTables::new` meets its contract. Eight tables of eight bits, computed (`tables`).
-- Assumes nothing.
use Rattle.std.proofs.Common.{refl}
use Rattle.crc.specs.Crc32.{shift, shifts}
use Rattle.crc.proofs.Entries.{tables-right}
use Rattle.crc.proofs.lane_tables.LaneTables.new.Goals as goal

pub invariant_of-result-clause-right : goal.invariant_of-result-clause-right
unfolding shift shifts
invariant_of-result-clause-right c = tables-right 8 8 192 256 refl refl
