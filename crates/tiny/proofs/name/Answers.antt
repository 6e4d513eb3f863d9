-- `name` meets its contract: the verdict, then the name of an accepted image. Assumes nothing.
use Rattle.std.proofs.Common.{rules}
use Rattle.tiny.specs.Answers.{name_of}
use Rattle.tiny.proofs.name.Goals as goal

pub returns-in_err-judge : goal.returns-in_err-judge
unfolding name_of
returns-in_err-judge c = search rules

pub returns : goal.returns
unfolding name_of
returns c = search rules
