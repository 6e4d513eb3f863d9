-- `walk::walk_all` meets its contract. The loop's invariant: each finding so far, or else what its rule finds from `at` on, is what the rule finds.
-- Assumes nothing.
use Rattle.std.proofs.Common.{refl, sym, ◌∙◌, arith}
use Rattle.board_layout.specs.Layout.{next}
use Rattle.board_layout.proofs.laws.Layout.{next-grows}
use Rattle.board_rules.proofs.laws.Findings.{along-start, along-turn, along-done, along-broken}
use Rattle.board_rules.proofs.walk.walk_all.Goals as goal

pub loop-at-init : goal.loop-at-init
loop-at-init c = let d = c.default-found.ensures in along-start c.args.image.now c.args.kinds _ d.0 d.1.0 d.1.1.0 d.1.1.1.0 d.1.1.1.1.0 d.1.1.1.1.1

pub note-found-requires : goal.note-found-requires
note-found-requires c = c.loop-at.invariant.few

pub returns-then-is_some : goal.returns-then-is_some
returns-then-is_some c = let s = c.args.image.now in
    along-broken s c.args.kinds _ (next s c.loop-at.at) (sym c.is_some.ensures ∙ c.if-is_some.true)
    (along-turn s c.args.kinds c.later_place-later.ensures c.struct_len-all.ensures c.loop-at-test.true c.note-found.ensures refl c.loop-at.invariant)

pub loop-at-smaller : goal.loop-at-smaller
loop-at-smaller c = let s = c.args.image.now in omega (arith, c.after-at.ensures, next-grows s c.loop-at.at, c.loop-at-test.true)

pub loop-at-preserved : goal.loop-at-preserved
loop-at-preserved c =
    along-turn c.args.image.now c.args.kinds c.later_place-later.ensures c.struct_len-all.ensures c.loop-at-test.true c.note-found.ensures c.after-at.ensures c.loop-at.invariant

pub returns : goal.returns
returns c = along-done c.args.image.now c.args.kinds _ c.loop-at.at (rw c.struct_len-all.ensures at c.loop-at-test.false) c.loop-at.invariant
