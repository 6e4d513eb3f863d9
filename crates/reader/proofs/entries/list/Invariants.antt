-- The loop of `list`: the first i entries are stored, and `at` is where item i starts. Assumes nothing.
use Rattle.std.proofs.Common.{◌≡◌}
use Rattle.chain.specs.Fill.{filled}
use Rattle.reader.proofs.laws.List.{place_of, entry_of}
use Rattle.reader.proofs.entries.list.Given as goal

abbrev pub invariant-loop-i : goal.invariant-loop-i
invariant-loop-i l =
    record {
      stored : l.out ≡ filled (entry_of l.format l.kinds l.image) l.i l.initial.out;
      place : l.at ≡ place_of l.format l.image l.i;
    }
