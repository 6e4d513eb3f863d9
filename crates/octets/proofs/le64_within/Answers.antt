-- `le64_within` meets its contract: the two halves make up the number (`le64-halves`). Assumes nothing.
use Rattle.std.proofs.Common.{arith}
use Rattle.octets.proofs.laws.Bytes.{le64-halves}
use Rattle.octets.proofs.le64_within.Goals as goal

pub returns : goal.returns
returns c = let a = c.args in omega (arith, le64-halves a.s.now a.at)
