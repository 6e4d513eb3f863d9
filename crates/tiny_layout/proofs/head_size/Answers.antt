-- `head_size` meets its contract: two tests, two answers. Assumes nothing.
use Rattle.std.proofs.Common.{rules}
use Rattle.tiny_layout.specs.Layout.{head_size}
use Rattle.tiny_layout.proofs.head_size.Goals as goal

pub returns-then-tag-eq0 : goal.returns-then-tag-eq0
unfolding head_size
returns-then-tag-eq0 c = search rules

pub returns-else-tag-eq0 : goal.returns-else-tag-eq0
unfolding head_size
returns-else-tag-eq0 c = search rules
