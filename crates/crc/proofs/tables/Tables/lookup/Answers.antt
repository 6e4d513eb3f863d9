-- `crc::tables::Tables::lookup` meets its contract. Each turn adds what stands at the part below those before (`lookup-next`).
-- Assumes nothing.
use Rattle.std.proofs.Common.{arith}
use Rattle.crc.proofs.Lookup.{part-size, entry-place, lookup-next}
use Rattle.crc.proofs.tables.Tables.lookup.Goals as goal

pub bounds-self-k : goal.bounds-self-k
bounds-self-k g c = let t = c.args.self.now in
    rw (part-size g.row.W t.parts.1) (entry-place g.row.W _ _ _ g.row.LEN t.size (omega arith))

pub loop-j-preserved : goal.loop-j-preserved
loop-j-preserved g c = let t = c.args.self.now in
    rw (part-size g.row.W t.parts.1)
    (lookup-next t.right t.parts.0 t.parts.2 t.word_or_more c.args.x c.args.k c.loop-j.j c.loop-j.r (omega arith) (omega arith) c.requires.0 c.loop-j.invariant)
