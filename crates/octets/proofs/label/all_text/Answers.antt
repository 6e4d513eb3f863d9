-- `all_text` meets its contract. The loop's invariant: the bytes before i are text, and the text does not end from i on, exactly where it does not end at all.
-- Assumes nothing.
use Rattle.std.proofs.Common.{◌≡◌, refl, sym, ◌∙◌, arith, ◌&&◌}
use Rattle.octets.specs.Label.{text_end}
use Rattle.octets.proofs.laws.Label.{full-turn, full-done}
use Rattle.octets.proofs.label.all_text.Goals as goal
use Rattle.octets.proofs.label.all_text.Goals.{then-all, else-all}

pub loop-i-init : goal.loop-i-init
unfolding text_end
loop-i-init c = (refl, omega arith)

pub loop-i-preserved : goal.loop-i-preserved
loop-i-preserved c = let a = c.args in
    let joined : c.if-all.all ≡ c.loop-i.all && c.is_label_text-text.result = elim c.if-all.branch [ then-all w ↦ w.all-is ∙ rw w.if-all.true | else-all w ↦ w.all-is ∙ rw w.if-all.false ] in
    (rw joined (full-turn a.s.now a.at c.loop-i.all _ _ c.loop-i-test.true (sym c.is_label_text-text.ensures) c.loop-i.invariant.0), omega arith)

pub returns : goal.returns
returns c = let a = c.args in full-done a.s.now a.at _ _ c.loop-i-test.false c.loop-i.invariant.0
