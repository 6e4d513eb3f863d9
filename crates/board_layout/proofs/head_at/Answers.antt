-- `head_at` meets its contract: the head at the front of the bytes from the place on (`head-part`). Assumes nothing.
use Rattle.std.proofs.Common.{◌∙◌}
use Rattle.board_layout.proofs.laws.Head.{head-part}
use Rattle.board_layout.proofs.head_at.Goals as goal

pub returns : goal.returns
returns c = let a = c.args in
    rw c.window.ensures at c.head_in.ensures ∙ head-part a.image.now a.at
