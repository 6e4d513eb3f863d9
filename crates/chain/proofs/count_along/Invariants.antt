-- The loop of `count_along`: the count so far and what is left from `at` on are the whole count; no more are counted than places passed. Assumes nothing.
use Rattle.std.proofs.Common.{◌+◌, ◌-◌, ◌≤◌, ◌≡◌, ℕ, length}
use Rattle.chain.specs.Along.{Follows, Grows}
use Rattle.chain.specs.Chain.{chain}
use Rattle.chain.proofs.count_along.Given as goal

abbrev pub invariant-loop-at : goal.invariant-loop-at
invariant-loop-at g l = record {
  few : l.count ≤ l.at;
  whole :
      (step : ℕ → ℕ) → Grows step → Follows (goal.N-post g l.fn.next) l.fn.end step
      → l.count + length (chain step l.fn.end l.at) ≡ length (chain step l.fn.end l.fn.from);
}

abbrev pub decreases-loop-at : goal.decreases-loop-at
decreases-loop-at g l = l.end - l.at
