-- `first_along` meets its contract: the laws of a search along a chain (`hit-some`, `turn-none`, `done`). Assumes nothing.
use Rattle.std.proofs.Common.{refl, sym, ◌∙◌}
use Rattle.chain.proofs.laws.Loops.{turn-none, hit-some, done}
use Rattle.chain.proofs.first_along.Goals as goal

pub loop-at-preserved : goal.loop-at-preserved
loop-at-preserved g c =
    λ said step asks grows follows.
    turn-none said step _ grows _ _ _ c.loop-at-test.true (asks _ _ c.loop-at-test.true c.rule-found.ensures)
    (sym c.is_some.ensures ∙ c.if-is_some.false) (follows _ _ c.loop-at-test.true c.next-at.ensures)
    (c.loop-at.invariant said step asks grows follows)

pub returns-then-is_some : goal.returns-then-is_some
returns-then-is_some g c =
    λ said step asks grows follows.
    hit-some said step _ grows _ _ c.loop-at-test.true (asks _ _ c.loop-at-test.true c.rule-found.ensures)
    (sym c.is_some.ensures ∙ c.if-is_some.true) (c.loop-at.invariant said step asks grows follows)

pub returns : goal.returns
returns g c = λ said step asks grows follows. done said step _ grows _ c.loop-at-test.false (c.loop-at.invariant said step asks grows follows)
