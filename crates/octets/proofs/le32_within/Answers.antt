-- `le32_within` meets its contract: its four bytes make up the number by its definition. Assumes nothing.
use Rattle.std.proofs.Common.{ap, arith, add-zero}
use Rattle.chain.specs.Fill.{tab}
use Rattle.octets.specs.Bytes.{byte, le32}
use Rattle.octets.proofs.le32_within.Goals as goal

pub returns : goal.returns
unfolding le32 tab
returns c = let a = c.args in omega (arith, ap (byte a.s.now) (add-zero a.at))
