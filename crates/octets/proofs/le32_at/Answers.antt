-- `le32_at` meets its contract: four bytes within are the number, at the end its two halves make it up (`le32-halves`), and past the end it is 0.
-- Assumes nothing.
use Rattle.std.proofs.Common.{sym, arith}
use Rattle.octets.proofs.laws.Bytes.{le32-halves, le32-past}
use Rattle.octets.proofs.le32_at.Goals as goal

pub returns-then-at-s : goal.returns-then-at-s
returns-then-at-s c = let a = c.args in omega (arith, le32-halves a.s.now a.at)

pub returns : goal.returns
returns c = let a = c.args in sym (le32-past a.s.now a.at c.if-at-s.false)
