-- `text_end` meets its contract: by `all_text` where that tells that the text does not end, and else by the loop, whose invariant is that the text ends,
-- seen from i on, where it ends. Assumes nothing.
use Rattle.std.proofs.Common.{refl, sym, ◌∙◌, ap}
use Rattle.chain.proofs.laws.Loops.{one-grows, turn, hit, done}
use Rattle.octets.specs.Label.{is_label_text, text_end}
use Rattle.octets.proofs.laws.Runs.{is-nothing}
use Rattle.octets.proofs.label.text_end.Goals as goal

pub returns-then-all_text : goal.returns-then-all_text
returns-then-all_text c = sym (is-nothing _ (sym c.all_text.ensures ∙ c.if-all_text.true))

pub loop-i-init : goal.loop-i-init
unfolding text_end
loop-i-init c = refl

pub loop-i-preserved : goal.loop-i-preserved
loop-i-preserved c = turn _ _ _ one-grows _ _ c.loop-i-test.true (rw (sym (c.is_label_text.ensures ∙ ap is_label_text c.byte_from.ensures)) search) refl c.loop-i.invariant

pub returns-then-not-is_label_text : goal.returns-then-not-is_label_text
returns-then-not-is_label_text c = hit _ _ _ one-grows _ _ c.loop-i-test.true (rw (sym (c.is_label_text.ensures ∙ ap is_label_text c.byte_from.ensures)) (rw c.if-not-is_label_text.true refl)) c.loop-i.invariant

pub returns : goal.returns
returns c = done _ _ _ one-grows _ c.loop-i-test.false c.loop-i.invariant
