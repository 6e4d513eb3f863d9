-- `judge_data` meets its contract: at each return, what was found of the rules up to it. Assumes nothing.
use Rattle.std.proofs.Common.{rules}
use Rattle.tiny_rules.specs.Rules.{rule9, rule10, rule11}
use Rattle.tiny_rules.proofs.judge_data.Goals as goal

pub returns-in_err-keeps : goal.returns-in_err-keeps
unfolding rule9 rule10 rule11
returns-in_err-keeps c = search rules

pub returns-in_err-keeps-2 : goal.returns-in_err-keeps-2
unfolding rule9 rule10 rule11
returns-in_err-keeps-2 c = search rules

pub returns-in_err-keeps-3 : goal.returns-in_err-keeps-3
unfolding rule9 rule10 rule11
returns-in_err-keeps-3 c = search rules

pub returns : goal.returns
unfolding rule9 rule10 rule11
returns c = search rules
