-- `data_length` meets its contract: what the tag says, or the length byte after it. Assumes nothing.
use Rattle.std.proofs.Common.{rules}
use Rattle.tiny_layout.specs.Layout.{data_length}
use Rattle.tiny_layout.proofs.data_length.Goals as goal

pub returns-in-0 : goal.returns-in-0
unfolding data_length
returns-in-0 c = search rules

pub returns-in_default : goal.returns-in_default
unfolding data_length
returns-in_default c = search rules
