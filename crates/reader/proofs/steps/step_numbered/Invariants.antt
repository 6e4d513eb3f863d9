-- The loop of `step_numbered`: after i turns the walk is the one after i steps, and carries the lent image. Assumes nothing.
use Rattle.std.proofs.Common.{◌≡◌, ◌+◌, ◌-◌, ◌≤◌}
use Rattle.reader.specs.Walk.{walk_after}
use Rattle.reader.proofs.steps.step_numbered.Given as goal

abbrev pub invariant-loop-step : goal.invariant-loop-step
invariant-loop-step l =
    record {
      stands : l.walk ≡ walk_after l.fn.format l.walk.image l.fn.kinds l._step;
      image : l.walk.image.now ≡ l.fn.image;
      in_range : l._step ≤ l.due + 1;
    }

abbrev pub decreases-loop-step : goal.decreases-loop-step
decreases-loop-step l = l.due + 1 - l._step
