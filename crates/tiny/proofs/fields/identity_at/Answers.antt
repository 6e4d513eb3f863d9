-- `fields::identity_at` meets its contract, field by field. Assumes nothing.
use Rattle.std.proofs.Common.{rules}
use Rattle.tiny.specs.Items.{identity_at}
use Rattle.tiny.proofs.fields.identity_at.Goals as goal

pub returns : goal.returns
unfolding identity_at
returns c = search rules
