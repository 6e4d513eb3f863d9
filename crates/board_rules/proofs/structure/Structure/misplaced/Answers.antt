-- `Structure::misplaced` meets its contract: the five checks in their order. Assumes nothing.
use Rattle.board_layout.proofs.laws.Checks.{then-when, five-checks}
use Rattle.board_rules.specs.Rules.{misplaced}
use Rattle.board_rules.proofs.structure.Structure.misplaced.Goals as goal

pub returns : goal.returns
unfolding misplaced
returns c = let seen = c.args.self.now.seen in
    simp (c.or-4.ensures, c.or-3.ensures, c.or-2.ensures, c.or.ensures, c.then_some.ensures, c.place-place.ensures, c.then_some-2.ensures, c.mark.ensures, c.then_some-3.ensures, c.length.ensures, c.then_some-4.ensures, c.finish.ensures, c.overdue.ensures, seen.all, then-when, five-checks)
