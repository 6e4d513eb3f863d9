-- `steps::shown` meets its contract: by the verdict, and over an accepted image by whether the place lies before the end. Assumes nothing.
use Rattle.std.proofs.Common.{sym, ap, le-ltb, lt-ltb}
use Rattle.reader.specs.Walk.{shown_if, shown}
use Rattle.reader.proofs.steps.shown.Goals as goal

pub returns-in-Ok : goal.returns-in-Ok
unfolding shown
returns-in-Ok c = let a = c.args in
    rw (ap (shown_if a.format a.kinds a.image.now a.position) c.in-Ok.is, lt-ltb _ _ c.if-position.true, c.item_at.ensures)

pub returns-in-Ok-2 : goal.returns-in-Ok-2
unfolding shown
returns-in-Ok-2 c = let a = c.args in
    rw (ap (shown_if a.format a.kinds a.image.now a.position) c.in-Ok.is, le-ltb _ _ c.if-position.false)

pub returns-in-Err : goal.returns-in-Err
unfolding shown
returns-in-Err c = let a = c.args in
    sym (ap (shown_if a.format a.kinds a.image.now a.position) c.in-Err.is)
