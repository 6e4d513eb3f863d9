-- `count_along` meets its contract: the laws of a count along a chain (`count-turn`, `count-done`). Assumes nothing.
use Rattle.std.proofs.Common.{arith}
use Rattle.chain.proofs.laws.Loops.{count-turn, count-done}
use Rattle.chain.proofs.count_along.Goals as goal

pub loop-at-preserved : goal.loop-at-preserved
loop-at-preserved g c = record {
  few = let on = c.requires.grows _ _ c.loop-at-test.true c.next-at.ensures in omega (arith, on, c.loop-at.invariant.few);
  whole =
      λ step grows follows.
      count-turn step _ grows _ _ _ c.loop-at-test.true (follows _ _ c.loop-at-test.true c.next-at.ensures) (c.loop-at.invariant.whole step grows follows);
}

pub returns : goal.returns
returns g c = λ step grows follows. count-done step _ grows _ _ c.loop-at-test.false (c.loop-at.invariant.whole step grows follows)
