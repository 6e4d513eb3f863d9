-- `string_end` meets its contract. The loop's invariant: the first marked byte from `at` on is the first of all. Assumes nothing.
use Rattle.std.proofs.lemmas.Bool.{lt-leb}
use Rattle.std.proofs.Common.{◌≡◌, refl, ◌∙◌, ap, arith, le-leb, None}
use Rattle.chain.proofs.laws.Loops.{one-grows, turn, hit, done}
use Rattle.tiny_layout.specs.Strings.{past_mark, string_end}
use Rattle.tiny_layout.proofs.string_end.Goals as goal

pub returns-then-byte_at-ge128 : goal.returns-then-byte_at-ge128
unfolding string_end
returns-then-byte_at-ge128 c = let a = c.args in
    ap (past_mark a.to a.from) (hit _ _ _ one-grows _ _ c.loop-at-test.true (rw (le-leb _ _ (rw c.byte_at.ensures at c.if-byte_at-ge128.true))) c.loop-at.invariant)

pub loop-at-preserved : goal.loop-at-preserved
loop-at-preserved c = turn _ _ _ one-grows _ _ c.loop-at-test.true (rw (lt-leb _ _ (rw c.byte_at.ensures at c.if-byte_at-ge128.false))) refl c.loop-at.invariant

pub returns : goal.returns
unfolding string_end
returns c = let a = c.args in
    let e : a.to ≡ past_mark a.to a.from None = omega (arith, c.requires) in
    e ∙ ap (past_mark a.to a.from) (done _ _ _ one-grows _ c.loop-at-test.false c.loop-at.invariant)
