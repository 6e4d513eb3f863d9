-- `walk::above_bytes` meets its contract. The loop's invariant: the number is above the bytes up to `at`. Assumes nothing.
use Rattle.std.proofs.Common.{◌-◌}
use Rattle.tiny_rules.specs.Findings.{Above}
use Rattle.tiny_rules.proofs.walk.above_bytes.Given as goal

abbrev pub invariant-loop-at : goal.invariant-loop-at
invariant-loop-at l = Above l.image l.least l.from l.at l.most

abbrev pub decreases-loop-at : goal.decreases-loop-at
decreases-loop-at l = l.at-end - l.at
