-- `le16_at` meets its contract: the two bytes make up the number by its definition. Assumes nothing.
use Rattle.std.proofs.Common.{arith}
use Rattle.chain.specs.Fill.{tab}
use Rattle.octets.specs.Bytes.{le16}
use Rattle.octets.proofs.le16_at.Goals as goal

pub returns : goal.returns
unfolding le16 tab
returns c = omega arith
