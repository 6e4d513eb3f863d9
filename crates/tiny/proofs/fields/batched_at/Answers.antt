-- `fields::batched_at` meets its contract: the identity, and the batch. Assumes nothing.
use Rattle.std.proofs.Common.{rules}
use Rattle.tiny.specs.Items.{batched_at}
use Rattle.tiny.proofs.fields.batched_at.Goals as goal

pub returns : goal.returns
unfolding batched_at
returns c = search rules
