-- `request::bytes` meets its contract. The loop's invariant is `Going`: with what is read from the place on, the buffer holds all bytes of the part. Assumes nothing.
use Rattle.std.proofs.Common.{◌-◌, length}
use Rattle.console.proofs.laws.Bytes.{Going}
use Rattle.console.proofs.request.bytes.Given as goal

abbrev pub invariant-loop-at : goal.invariant-loop-at
invariant-loop-at l = Going l.part l.initial.out l.at l.n l.out

abbrev pub decreases-loop-at : goal.decreases-loop-at
decreases-loop-at l = length l.part - l.at
