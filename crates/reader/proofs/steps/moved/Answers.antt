-- `steps::moved` meets its contract: by the verdict. Assumes nothing.
use Rattle.std.proofs.Common.{sym, ◌∙◌, ap}
use Rattle.reader.specs.Walk.{moved_if, moved}
use Rattle.reader.proofs.steps.moved.Goals as goal

pub returns-in-Ok : goal.returns-in-Ok
unfolding moved
returns-in-Ok c = let a = c.args in
    c.go_on.ensures ∙ sym (ap (moved_if a.format a.image.now a.position) c.in-Ok.is)

pub returns-in-Err : goal.returns-in-Err
unfolding moved
returns-in-Err c = let a = c.args in
    sym (ap (moved_if a.format a.image.now a.position) c.in-Err.is)
