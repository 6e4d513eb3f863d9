-- `kinds::Kinds::from_bits` meets its contract: each field is the bit that the definition names. Assumes nothing.
use Rattle.std.proofs.Common.{refl}
use Rattle.kinds.specs.Kinds.{from_bits}
use Rattle.kinds.proofs.Kinds.from_bits.Goals as goal

pub returns : goal.returns
unfolding from_bits
returns c = refl
