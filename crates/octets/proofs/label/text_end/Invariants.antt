-- `text_end` meets its contract: by `all_text` where that tells that the text does not end, and else by the loop, whose invariant is that the text ends,
-- seen from i on, where it ends. Assumes nothing.
use Rattle.std.proofs.Common.{◌≡◌, ◌-◌}
use Rattle.chain.specs.Chain.{ahead}
use Rattle.chain.specs.First.{when, search}
use Rattle.octets.specs.Label.{no_text, text_end}
use Rattle.octets.proofs.label.text_end.Given as goal

abbrev pub invariant-loop-i : goal.invariant-loop-i
invariant-loop-i l = search (λ j. when (no_text l.s l.at j) j) (ahead 1) 16 l.i ≡ text_end l.s l.at

abbrev pub decreases-loop-i : goal.decreases-loop-i
decreases-loop-i l = 16 - l.i
