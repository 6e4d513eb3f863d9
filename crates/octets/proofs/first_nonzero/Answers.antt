-- `first_nonzero` meets its contract: by `zero_run` where that tells that there is none, and else by the loop. Its invariant:
-- the first byte that is not zero from i on is the first of all. A byte that is not zero lies within the image, so its place fits. Assumes nothing.
use Rattle.std.proofs.Common.{◌+◌, refl, sym, ◌∙◌, arith, ne_eqb, eq-eqb}
use Rattle.chain.proofs.laws.Loops.{one-grows, turn, hit, done}
use Rattle.octets.specs.Runs.{nonzero}
use Rattle.octets.proofs.laws.Bytes.{byte-within}
use Rattle.octets.proofs.first_nonzero.Goals as goal

pub returns-then-zero_run : goal.returns-then-zero_run
returns-then-zero_run c = sym (c.zero_run.ensures c.if-zero_run.true)

pub loop-i-init : goal.loop-i-init
unfolding nonzero
loop-i-init c = refl

pub overflow_add-result : goal.overflow_add-result
overflow_add-result c = let a = c.args in omega (arith, byte-within a.s.now (a.at + c.loop-i.i) (omega (arith, c.if-byte_from-ne0.true, c.byte_from.ensures)))

pub returns-then-byte_from-ne0 : goal.returns-then-byte_from-ne0
returns-then-byte_from-ne0 c = hit _ _ _ one-grows _ _ c.loop-i-test.true (rw (ne_eqb _ _ (λ e. c.if-byte_from-ne0.true (c.byte_from.ensures ∙ e)))) c.loop-i.invariant

pub loop-i-preserved : goal.loop-i-preserved
loop-i-preserved c = turn _ _ _ one-grows _ _ c.loop-i-test.true (rw (eq-eqb _ _ (sym c.byte_from.ensures ∙ c.if-byte_from-ne0.false))) refl c.loop-i.invariant

pub returns : goal.returns
returns c = done _ _ _ one-grows _ c.loop-i-test.false c.loop-i.invariant
