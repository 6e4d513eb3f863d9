-- `fields::bad_revision` meets its contract: a test for each field, in their order. Assumes nothing.
use Rattle.std.proofs.Common.{rules}
use Rattle.tiny_rules.specs.Rules.{bad_revision}
use Rattle.tiny_rules.proofs.fields.bad_revision.Goals as goal

pub returns : goal.returns
unfolding bad_revision
returns c = search rules
