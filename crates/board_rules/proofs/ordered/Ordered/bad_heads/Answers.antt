-- `Ordered::bad_heads` meets its contract: the three checks in their order. Assumes nothing.
use Rattle.board_layout.proofs.laws.Checks.{three-checks}
use Rattle.board_rules.specs.Rules.{rule26}
use Rattle.board_rules.proofs.ordered.Ordered.bad_heads.Goals as goal

pub returns : goal.returns
unfolding rule26
returns c = simp (c.or-2.ensures, c.or.ensures, c.bad_map_head.ensures, c.map.ensures, c.bad_board_head.ensures, c.board.ensures, c.bad_signature_head.ensures, three-checks)
