-- `walk::walk_all` meets its contract. The loop's invariant: each finding so far, or else what its rule finds from `at` on, is what the rule finds.
-- Assumes nothing.
use Rattle.std.proofs.Common.{ap, arith}
use Rattle.tiny_layout.proofs.laws.Layout.{next-grows}
use Rattle.tiny_rules.specs.declared.walk.Head.{Head}
use Rattle.tiny_rules.proofs.laws.Findings.{along-start, along-turn, along-done}
use Rattle.tiny_rules.proofs.walk.walk_all.Goals as goal

pub loop-at-init : goal.loop-at-init
loop-at-init c = let a = c.args in let d = c.default-found.ensures in along-start a.image.now a.kinds _ d.0 d.1.0 d.1.1.0 d.1.1.1.0 d.1.1.1.1.0 d.1.1.1.1.1.1

pub loop-at-smaller : goal.loop-at-smaller
loop-at-smaller c = let a = c.args in
    omega (arith, ap (λ (h : Head). h.after) c.head_at-item.ensures, next-grows a.image.now c.loop-at.at)

pub loop-at-preserved : goal.loop-at-preserved
loop-at-preserved c = let a = c.args in
    let here = c.loop-at in
    let item = c.head_at-item.ensures in
    let noted = rw (ap (λ (h : Head). h.place) item) at c.note-found.ensures in
    along-turn a.image.now a.kinds here.found _ here.at _ (rw c.check_place-end.ensures at c.loop-at-test.true) (ap (λ (h : Head). h.after) item) noted here.invariant

pub returns : goal.returns
returns c = let a = c.args in
    along-done a.image.now a.kinds _ c.loop-at.at (rw c.check_place-end.ensures at c.loop-at-test.false) c.loop-at.invariant
