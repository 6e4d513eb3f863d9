-- `is_text` meets its contract: the two bounds one after the other. Assumes nothing.
use Rattle.std.proofs.lemmas.Bool.{lt-leb}
use Rattle.std.proofs.Common.{le-leb}
use Rattle.octets.specs.Label.{is_text}
use Rattle.octets.proofs.label.is_text.Goals as goal

pub returns-then-b-lt32 : goal.returns-then-b-lt32
unfolding is_text
returns-then-b-lt32 c = rw (lt-leb _ _ c.if-b-lt32.true)

pub returns : goal.returns
unfolding is_text
returns c = rw (le-leb _ _ c.if-b-lt32.false)
