-- `layout::go_on` meets its contract: it stays from the end on, and goes to the next item or to the end. Assumes nothing.
use Rattle.std.proofs.Common.{sym, arith}
use Rattle.chain.proofs.laws.Onward.{onward-more, onward-end}
use Rattle.reader.specs.Formats.{next}
use Rattle.reader.proofs.layout.go_on.Goals as goal

pub returns-then-end-at : goal.returns-then-end-at
returns-then-end-at c = sym (onward-end _ _ _ c.if-end-at.true)

pub returns-then-end-after : goal.returns-then-end-after
returns-then-end-after c = let a = c.args in
    omega (arith, c.next_from-after.ensures, c.if-end-after.true, onward-more (next a.format a.image.now) a.end a.at c.if-end-at.false)

pub returns : goal.returns
returns c = let a = c.args in
    omega (arith, c.next_from-after.ensures, c.if-end-after.false, onward-more (next a.format a.image.now) a.end a.at c.if-end-at.false)
