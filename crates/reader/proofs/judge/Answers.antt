-- `judge` meets its contract: the arm of each format, and each element of a slice of u8 is below 256. Assumes nothing.
use Rattle.std.proofs.Common.{arith}
use Rattle.reader.proofs.judge.Goals as goal

pub returns-in-Tiny : goal.returns-in-Tiny
returns-in-Tiny c = (
  rw c.in-Tiny.is c.judge.ensures,
  λ p. omega (arith, c.type_inv.image p),
)

pub returns-in-Board : goal.returns-in-Board
returns-in-Board c = (
  rw c.in-Board.is c.judge-in-Board.ensures,
  λ p. omega (arith, c.type_inv.image p),
)
