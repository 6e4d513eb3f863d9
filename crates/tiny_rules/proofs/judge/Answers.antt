-- `judge` meets its contract: at each return, what the rules up to it found. Assumes nothing.
use Rattle.std.proofs.Common.{rules}
use Rattle.tiny_rules.specs.Judged.{judged}
use Rattle.tiny_rules.specs.Rules.{rule1, rule2, rule3, rule4}
use Rattle.tiny_rules.proofs.judge.Goals as goal

pub returns-in_err-keeps : goal.returns-in_err-keeps
unfolding judged rule1 rule2 rule3 rule4
returns-in_err-keeps c = search rules

pub returns-in_err-keeps-2 : goal.returns-in_err-keeps-2
unfolding judged rule1 rule2 rule3 rule4
returns-in_err-keeps-2 c = search rules

pub returns-in_err-keeps-3 : goal.returns-in_err-keeps-3
unfolding judged rule1 rule2 rule3 rule4
returns-in_err-keeps-3 c = search rules

pub returns-in_err-keeps-4 : goal.returns-in_err-keeps-4
unfolding judged rule1 rule2 rule3 rule4
returns-in_err-keeps-4 c = search rules

pub returns : goal.returns
unfolding judged rule1 rule2 rule3 rule4
returns c = search rules
