-- `kinds::Kinds::with_signature` meets its contract: each field is the mark that the definition names, by computation. Assumes nothing.
use Rattle.std.proofs.Common.{refl}
use Rattle.kinds.specs.Kinds.{extended}
use Rattle.kinds.proofs.Kinds.with_signature.Goals as goal

pub returns : goal.returns
unfolding extended
returns c = refl
