-- `walk::walk_all` meets its contract. The loop's invariant: each finding so far, or else what its rule finds from `at` on, is what the rule finds.
-- Assumes nothing.
use Rattle.std.proofs.Common.{◌-◌}
use Rattle.tiny_rules.proofs.laws.Findings.{Along}
use Rattle.tiny_rules.proofs.walk.walk_all.Given as goal

abbrev pub invariant-loop-at : goal.invariant-loop-at
invariant-loop-at l = Along l.fn.kinds l.image l.at l.found

abbrev pub decreases-loop-at : goal.decreases-loop-at
decreases-loop-at l = l.end - l.at
