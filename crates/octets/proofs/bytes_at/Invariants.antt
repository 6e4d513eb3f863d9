-- The loop of `bytes_at`: the first i bytes are stored. Assumes nothing.
use Rattle.std.proofs.Common.{◌≡◌, ◌+◌, length}
use Rattle.chain.specs.Fill.{filled}
use Rattle.octets.specs.Bytes.{byte}
use Rattle.octets.proofs.bytes_at.Given as goal

abbrev pub invariant-loop-i : goal.invariant-loop-i
invariant-loop-i g l =
    record {
      stored : l.bytes ≡ filled (λ j. byte l.s (l.at + j)) l.i l.initial.bytes;
      long : length l.bytes ≡ g.row.N;
      whole : length l.initial.bytes ≡ g.row.N;
    }
