-- `fields::bad_batched` meets its contract: the revision's answer, and where that is nothing the batch's. Assumes nothing.
use Rattle.std.proofs.Common.{rules}
use Rattle.tiny_rules.specs.Rules.{bad_batch}
use Rattle.tiny_rules.proofs.fields.bad_batched.Goals as goal

pub returns : goal.returns
unfolding bad_batch
returns c = search rules
