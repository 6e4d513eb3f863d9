-- `fields::major_text` meets its contract: two tests, two answers. Assumes nothing.
use Rattle.std.proofs.Common.{rules}
use Rattle.tiny.specs.Major.{major_text}
use Rattle.tiny.proofs.fields.major_text.Goals as goal

pub returns-then-m-lt128 : goal.returns-then-m-lt128
unfolding major_text
returns-then-m-lt128 c = search rules

pub returns-else-m-lt128 : goal.returns-else-m-lt128
unfolding major_text
returns-else-m-lt128 c = search rules
