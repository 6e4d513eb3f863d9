-- `kinds::Kinds::bare_list` meets its contract: the constant BARE has the marks of its definition. Assumes nothing.
use Rattle.std.proofs.Common.{refl}
use Rattle.kinds.specs.Kinds.{all}
use Rattle.kinds.proofs.Kinds.bare_list.Goals as goal

pub returns : goal.returns
unfolding all
returns c = refl
