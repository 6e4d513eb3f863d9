-- The loop of `first_along`: what is said first from `at` on is what is said first of all. Assumes nothing.
use Rattle.std.proofs.Common.{◌-◌, ◌≡◌, ℕ}
use Rattle.chain.specs.Along.{Asks, Follows, Grows}
use Rattle.chain.specs.First.{search}
use Rattle.chain.specs.Found.{Found}
use Rattle.chain.proofs.first_along.Given as goal

abbrev pub invariant-loop-at : goal.invariant-loop-at
invariant-loop-at g l =
    (said : ℕ → Found) (step : ℕ → ℕ) → Asks (goal.R-post g l.fn.rule) l.fn.end said → Grows step → Follows (goal.N-post g l.fn.next) l.fn.end step
    → search said step l.fn.end l.at ≡ search said step l.fn.end l.fn.from

abbrev pub decreases-loop-at : goal.decreases-loop-at
decreases-loop-at g l = l.end - l.at
