-- `Ordered::bad_check` meets its contract: the two checks in their order. Assumes nothing.
use Rattle.board_layout.proofs.laws.Checks.{then-when, two-checks}
use Rattle.board_rules.specs.Rules.{rule27}
use Rattle.board_rules.proofs.ordered.Ordered.bad_check.Goals as goal

pub returns : goal.returns
unfolding rule27
returns c = simp (c.or.ensures, c.then_some.ensures, c.le32_at.ensures, c.check_over.ensures, c.covered_by-n.ensures, c.then_some-2.ensures, c.le32_at-2.ensures, then-when, two-checks)
