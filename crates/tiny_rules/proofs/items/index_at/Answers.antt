-- `items::index_at` meets its contract: the indexes of the row are searched where the tag is on the list. Assumes nothing.
use Rattle.std.proofs.Common.{rules}
use Rattle.tiny_rules.specs.Rules.{bad_index}
use Rattle.tiny_rules.proofs.items.index_at.Goals as goal

pub returns : goal.returns
unfolding bad_index
returns c = search rules
