-- `find_string` meets its contract: the place of the number, and the string there. Assumes nothing.
use Rattle.std.proofs.Common.{rules}
use Rattle.tiny_layout.specs.Strings.{reference}
use Rattle.tiny_layout.proofs.find_string.Goals as goal

pub returns-in_err-at : goal.returns-in_err-at
unfolding reference
returns-in_err-at c = search rules

pub returns : goal.returns
unfolding reference
returns c = search rules
