-- `crc::word_tables::WordTables::new` meets its contract. Sixteen tables of four bits, computed (`tables`).
-- Assumes nothing.
use Rattle.std.proofs.Common.{refl}
use Rattle.crc.specs.Crc32.{shift, shifts}
use Rattle.crc.proofs.Entries.{tables-right}
use Rattle.crc.proofs.word_tables.WordTables.new.Goals as goal

pub invariant_of-result-clause-right : goal.invariant_of-result-clause-right
unfolding shift shifts
invariant_of-result-clause-right c = tables-right 4 16 0 64 refl refl
