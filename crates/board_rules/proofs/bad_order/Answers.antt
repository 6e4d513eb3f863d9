-- `bad_order` meets its contract: the three checks in their order. Assumes nothing.
use Rattle.board_layout.proofs.laws.Checks.{three-checks}
use Rattle.board_rules.specs.Rules.{rule25}
use Rattle.board_rules.proofs.bad_order.Goals as goal

pub returns : goal.returns
unfolding rule25
returns c = simp (c.or-2.ensures, c.or.ensures, c.unexpected.ensures, c.map_place.ensures, c.unexpected-2.ensures, c.board_place.ensures, c.requires, three-checks)
