-- `first_difference` meets its contract. The loop's invariant: the first difference from i on is the first of all. Assumes nothing.
use Rattle.std.proofs.Common.{◌≡◌, ◌-◌}
use Rattle.chain.specs.Chain.{ahead}
use Rattle.chain.specs.First.{when, search}
use Rattle.octets.specs.Runs.{apart, difference}
use Rattle.octets.proofs.first_difference.Given as goal

abbrev pub invariant-loop-i : goal.invariant-loop-i
invariant-loop-i l = search (λ j. when (apart l.a l.p l.b l.q j) j) (ahead 1) l.n l.i ≡ difference l.a l.p l.b l.q l.n

abbrev pub decreases-loop-i : goal.decreases-loop-i
decreases-loop-i l = l.n - l.i
