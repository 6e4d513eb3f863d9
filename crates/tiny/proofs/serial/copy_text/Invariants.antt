-- `serial::copy_text` meets its contract. The loop's invariant: the first i bytes are those of the text, and the rest is as it was. Assumes nothing.
use Rattle.std.proofs.Common.{◌≡◌, ◌+◌, ◌-◌, ◌≤◌, length}
use Rattle.chain.specs.Fill.{filled}
use Rattle.octets.specs.Bytes.{byte}
use Rattle.tiny_layout.specs.Strings.{letter}
use Rattle.tiny.proofs.serial.copy_text.Given as goal

abbrev pub invariant-loop-i : goal.invariant-loop-i
invariant-loop-i l = (l.buffer ≡ filled (λ j. letter (byte l.image (l.span.place + j))) l.i l.initial.buffer) × (l.i ≤ l.span.length) × (length l.buffer ≡ length l.initial.buffer)

abbrev pub decreases-loop-i : goal.decreases-loop-i
decreases-loop-i l = l.span.length - l.i
