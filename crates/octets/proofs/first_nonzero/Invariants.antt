-- `first_nonzero` meets its contract: by `zero_run` where that tells that there is none, and else by the loop. Its invariant:
-- the first byte that is not zero from i on is the first of all. A byte that is not zero lies within the image, so its place fits. Assumes nothing.
use Rattle.std.proofs.Common.{◌≡◌, ◌+◌, ◌-◌}
use Rattle.chain.specs.Chain.{ahead}
use Rattle.chain.specs.First.{when, search}
use Rattle.octets.specs.Runs.{is_set, nonzero}
use Rattle.octets.proofs.first_nonzero.Given as goal

abbrev pub invariant-loop-i : goal.invariant-loop-i
invariant-loop-i l = search (λ j. when (is_set l.s l.at j) (l.at + j)) (ahead 1) l.to l.i ≡ nonzero l.s l.at l.from l.to

abbrev pub decreases-loop-i : goal.decreases-loop-i
decreases-loop-i l = l.to - l.i
