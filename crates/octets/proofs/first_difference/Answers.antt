-- `first_difference` meets its contract. The loop's invariant: the first difference from i on is the first of all. Assumes nothing.
use Rattle.std.proofs.Common.{refl, sym, ◌∙◌, ne_eqb, eq-eqb}
use Rattle.chain.proofs.laws.Loops.{one-grows, turn, hit, done}
use Rattle.octets.specs.Runs.{difference}
use Rattle.octets.proofs.first_difference.Goals as goal

pub loop-i-init : goal.loop-i-init
unfolding difference
loop-i-init c = refl

pub returns-then-byte_from : goal.returns-then-byte_from
returns-then-byte_from c = hit _ _ _ one-grows _ _ c.loop-i-test.true (rw (ne_eqb _ _ (λ e. c.if-byte_from.true (c.byte_from.ensures ∙ e ∙ sym c.byte_from-in-loop-i.ensures)))) c.loop-i.invariant

pub loop-i-preserved : goal.loop-i-preserved
loop-i-preserved c = turn _ _ _ one-grows _ _ c.loop-i-test.true (rw (eq-eqb _ _ (sym c.byte_from.ensures ∙ c.if-byte_from.false ∙ c.byte_from-in-loop-i.ensures))) refl c.loop-i.invariant

pub returns : goal.returns
returns c = done _ _ _ one-grows _ c.loop-i-test.false c.loop-i.invariant
