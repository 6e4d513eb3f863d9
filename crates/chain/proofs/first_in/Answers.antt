-- `first_in` meets its contract: the laws of a search along a chain whose items are one byte (`hit-some`, `turn-none`, `done`). Assumes nothing.
use Rattle.std.proofs.Common.{refl, sym, ◌∙◌}
use Rattle.chain.proofs.laws.Loops.{one-grows, turn-none, hit-some, done}
use Rattle.chain.proofs.first_in.Goals as goal

pub loop-at-preserved : goal.loop-at-preserved
loop-at-preserved g c =
    λ said asks.
    turn-none said _ _ one-grows _ _ _ c.loop-at-test.true (asks _ _ c.loop-at-test.true c.rule-broken.ensures)
    (sym c.is_some.ensures ∙ c.if-is_some.false) refl (c.loop-at.invariant said asks)

pub returns-then-is_some : goal.returns-then-is_some
returns-then-is_some g c =
    λ said asks.
    hit-some said _ _ one-grows _ _ c.loop-at-test.true (asks _ _ c.loop-at-test.true c.rule-broken.ensures)
    (sym c.is_some.ensures ∙ c.if-is_some.true) (c.loop-at.invariant said asks)

pub returns : goal.returns
returns g c = λ said asks. done said _ _ one-grows _ c.loop-at-test.false (c.loop-at.invariant said asks)
