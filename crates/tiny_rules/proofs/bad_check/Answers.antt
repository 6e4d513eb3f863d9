-- `bad_check` meets its contract, by rule 5 as it stands. Assumes nothing.
use Rattle.std.proofs.Common.{rules}
use Rattle.tiny_rules.specs.Rules.{rule5}
use Rattle.tiny_rules.proofs.bad_check.Goals as goal

pub returns : goal.returns
unfolding rule5
returns c = search rules
