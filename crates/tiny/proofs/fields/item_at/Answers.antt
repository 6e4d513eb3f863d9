-- `fields::item_at` meets its contract: the fields are shown where the tag is on the list. Assumes nothing.
use Rattle.std.proofs.Common.{rules}
use Rattle.tiny.specs.Items.{item_at}
use Rattle.tiny.proofs.fields.item_at.Goals as goal

pub returns : goal.returns
unfolding item_at
returns c = search rules
