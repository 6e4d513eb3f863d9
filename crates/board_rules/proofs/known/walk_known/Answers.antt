-- `known::walk_known` meets its contract. The loop's invariant: each finding so far, or else what its rule finds from `at` on, is what the rule finds.
-- Assumes nothing.
use Rattle.std.proofs.Common.{◌≡◌, ℕ, refl, sym, ◌∙◌, subst, arith, None}
use Rattle.board_layout.specs.Layout.{next}
use Rattle.board_layout.proofs.laws.Layout.{next-grows}
use Rattle.board_rules.specs.Findings.{along, is_known}
use Rattle.board_rules.proofs.laws.Findings.{into-start, into-turn, into-rest, into-done, into-broken}
use Rattle.board_rules.proofs.known.walk_known.Goals as goal

pub loop-at-init : goal.loop-at-init
loop-at-init c = into-start c.args.kinds c.args.image.now _ c.default-found.ensures.0 c.default-found.ensures.1

pub returns-then-at-rest : goal.returns-then-at-rest
returns-then-at-rest c = let s = c.args.image.now in
    let k = c.args.kinds in
    into-rest k s _ c.loop-at.at (subst (λ (p : ℕ). along s (is_known k s) p ≡ None) (sym c.if-at-rest.true) c.requires) c.loop-at.invariant

pub returns-then-is_some : goal.returns-then-is_some
returns-then-is_some c = let s = c.args.image.now in
    into-broken c.args.kinds s _ (next s c.loop-at.at) (sym c.is_some.ensures ∙ c.if-is_some.true)
    (into-turn c.args.kinds s c.struct_len-end.ensures c.loop-at-test.true c.look_into-found.ensures refl c.loop-at.invariant)

pub loop-at-smaller : goal.loop-at-smaller
loop-at-smaller c = let s = c.args.image.now in
    omega (arith, c.next_place-at.ensures, next-grows s c.loop-at.at, c.loop-at-test.true)

pub loop-at-preserved : goal.loop-at-preserved
loop-at-preserved c = let a = c.args in
    into-turn a.kinds a.image.now c.struct_len-end.ensures c.loop-at-test.true
    c.look_into-found.ensures c.next_place-at.ensures c.loop-at.invariant

pub returns : goal.returns
returns c = into-done c.args.kinds c.args.image.now _ c.loop-at.at (rw c.struct_len-end.ensures at c.loop-at-test.false) c.loop-at.invariant
