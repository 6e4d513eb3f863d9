-- `place_of` meets its contract: the laws of a loop along a chain (`nth-hit`, `nth-turn`, `nth-done`). Assumes nothing.
use Rattle.std.proofs.Common.{refl, arith}
use Rattle.chain.proofs.laws.Loops.{nth-turn, nth-hit, nth-done}
use Rattle.chain.proofs.place_of.Goals as goal

pub loop-at-preserved : goal.loop-at-preserved
loop-at-preserved g c =
    λ step grows follows.
    nth-turn step _ grows _ _ _ c.loop-at-test.true (omega (arith, c.if-left-eq0.false)) (follows _ _ c.loop-at-test.true c.next-at.ensures)
    (c.loop-at.invariant step grows follows)

pub returns-then-left-eq0 : goal.returns-then-left-eq0
returns-then-left-eq0 g c =
    λ step grows follows. nth-hit step _ grows _ _ c.loop-at-test.true c.if-left-eq0.true (c.loop-at.invariant step grows follows)

pub returns : goal.returns
returns g c = λ step grows follows. nth-done step _ grows _ _ c.loop-at-test.false (c.loop-at.invariant step grows follows)
