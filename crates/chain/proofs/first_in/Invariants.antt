-- The loop of `first_in`: what is said first from `at` on is what is said first of all. Assumes nothing.
use Rattle.std.proofs.Common.{◌-◌, ◌≡◌, ℕ}
use Rattle.chain.specs.Along.{Asks}
use Rattle.chain.specs.Chain.{ahead, range}
use Rattle.chain.specs.First.{first, search}
use Rattle.chain.specs.Found.{Found}
use Rattle.chain.proofs.first_in.Given as goal

abbrev pub invariant-loop-at : goal.invariant-loop-at
invariant-loop-at g l =
    (said : ℕ → Found) → Asks (goal.R-post g l.fn.rule) l.fn.to said
    → search said (ahead 1) l.fn.to l.at ≡ first said (range l.fn.from l.fn.to)

abbrev pub decreases-loop-at : goal.decreases-loop-at
decreases-loop-at g l = l.to - l.at
