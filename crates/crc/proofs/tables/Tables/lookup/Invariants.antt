-- `crc::tables::Tables::lookup` meets its contract. The loop: r is what the parts of x from j on come to.
-- Assumes nothing.
use Rattle.std.proofs.Common.{◌≡◌, ◌+◌, ◌-◌, ◌*◌, ◌/◌, ◌^◌}
use Rattle.crc.specs.Crc32.{shifts}
use Rattle.crc.proofs.tables.Tables.lookup.Given as goal

abbrev pub invariant-loop-j : goal.invariant-loop-j
invariant-loop-j g l = l.r ≡ shifts (g.row.N - 64 + g.row.W * (l.k - l.j)) (l.x / 2 ^ (g.row.W * l.j))
