-- The loop of `place_of`: of what is left from `at` on, the item of number `left` is the one asked for. Assumes nothing.
use Rattle.std.proofs.Common.{◌-◌, ◌≡◌, ℕ}
use Rattle.chain.specs.Along.{Follows, Grows}
use Rattle.chain.specs.Chain.{chain}
use Rattle.chain.specs.Nth.{nth}
use Rattle.chain.proofs.place_of.Given as goal

abbrev pub invariant-loop-at : goal.invariant-loop-at
invariant-loop-at g l =
    (step : ℕ → ℕ) → Grows step → Follows (goal.N-post g l.fn.next) l.fn.end step
    → nth (chain step l.fn.end l.at) l.left ≡ nth (chain step l.fn.end l.fn.from) l.fn.number

abbrev pub decreases-loop-at : goal.decreases-loop-at
decreases-loop-at g l = l.end - l.at
