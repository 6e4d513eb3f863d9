-- `fields::is_major` meets its contract: the tests on the way to each return. Assumes nothing.
use Rattle.std.proofs.Common.{rules}
use Rattle.tiny_rules.specs.Rules.{is_major}
use Rattle.tiny_rules.proofs.fields.is_major.Goals as goal

pub returns-then-m-le99 : goal.returns-then-m-le99
unfolding is_major
returns-then-m-le99 c = search rules

pub returns-then-m-ge128 : goal.returns-then-m-ge128
unfolding is_major
returns-then-m-ge128 c = search rules

pub returns-else-m-ge128 : goal.returns-else-m-ge128
unfolding is_major
returns-else-m-ge128 c = search rules
