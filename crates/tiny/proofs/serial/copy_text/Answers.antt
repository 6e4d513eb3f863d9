-- `serial::copy_text` meets its contract. The loop's invariant: the first i bytes are those of the text, and the rest is as it was. Assumes nothing.
use Rattle.std.proofs.Common.{rules, ◌+◌, refl, arith, length-set}
use Rattle.chain.specs.Fill.{filled}
use Rattle.chain.proofs.laws.Fill.{fill-start, fill-turn}
use Rattle.octets.specs.Bytes.{byte}
use Rattle.tiny_layout.specs.Strings.{letter}
use Rattle.tiny.proofs.serial.copy_text.Goals as goal

pub loop-i-init : goal.loop-i-init
loop-i-init c = (fill-start _ _, omega arith, refl)

pub loop-i-preserved : goal.loop-i-preserved
loop-i-preserved c = let a = c.args in
    (rw c.byte_from.ensures (fill-turn (λ j. letter (byte a.image.now (a.span.place + j))) _ _ _ (omega (arith, c.if-buffer-span.false)) c.loop-i.invariant.0), omega arith, simp length-set c.loop-i.invariant.2)

pub returns : goal.returns
unfolding filled
returns c = search rules
