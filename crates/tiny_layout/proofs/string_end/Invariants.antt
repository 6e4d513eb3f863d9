-- `string_end` meets its contract. The loop's invariant: the first marked byte from `at` on is the first of all. Assumes nothing.
use Rattle.std.proofs.Common.{◌≡◌, ◌-◌}
use Rattle.chain.specs.Chain.{ahead, range}
use Rattle.chain.specs.First.{first, search}
use Rattle.tiny_layout.specs.Strings.{mark}
use Rattle.tiny_layout.proofs.string_end.Given as goal

abbrev pub invariant-loop-at : goal.invariant-loop-at
invariant-loop-at l = search (mark l.image) (ahead 1) l.to l.at ≡ first (mark l.image) (range l.from l.to)

abbrev pub decreases-loop-at : goal.decreases-loop-at
decreases-loop-at l = l.to - l.at
