-- `kinds::Kinds::with_tag` meets its contract: each field is the mark that the definition names, by computation. Assumes nothing.
use Rattle.std.proofs.Common.{refl}
use Rattle.kinds.specs.Kinds.{extended}
use Rattle.kinds.proofs.Kinds.with_tag.Goals as goal

pub returns : goal.returns
unfolding extended
returns c = refl
