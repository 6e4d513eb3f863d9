-- `byte_at` meets its contract: past the end a byte reads as 0. Assumes nothing.
use Rattle.std.proofs.Common.{sym}
use Rattle.octets.proofs.laws.Bytes.{byte-past}
use Rattle.octets.proofs.byte_at.Goals as goal

pub returns : goal.returns
returns c = sym (byte-past c.args.s.now c.args.at c.if-at-s.false)
