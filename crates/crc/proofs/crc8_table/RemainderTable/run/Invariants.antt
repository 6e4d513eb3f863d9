-- `crc::crc8_table::RemainderTable::run` meets its contract. The loop: r is the check value after the bytes so far.
-- Assumes nothing.
use Rattle.std.proofs.Common.{◌≡◌, take}
use Rattle.crc.specs.Crc8.{run8}
use Rattle.crc.proofs.crc8_table.RemainderTable.run.Given as goal

abbrev pub invariant-loop-b : goal.invariant-loop-b
invariant-loop-b l = l.r ≡ run8 l.c (take l.b-index l.s)
