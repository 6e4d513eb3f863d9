-- `all_text` meets its contract. The loop's invariant: the bytes before i are text, and the text does not end from i on, exactly where it does not end at all.
-- Assumes nothing.
use Rattle.std.proofs.Common.{◌≡◌, ◌-◌, ◌≤◌, ◌&&◌}
use Rattle.octets.specs.Label.{text_end}
use Rattle.octets.specs.Runs.{is_nothing}
use Rattle.octets.proofs.laws.Label.{text_from}
use Rattle.octets.proofs.label.all_text.Given as goal

abbrev pub invariant-loop-i : goal.invariant-loop-i
invariant-loop-i l = (l.all && is_nothing (text_from l.s l.at l.i) ≡ is_nothing (text_end l.s l.at)) × (l.i ≤ 16)

abbrev pub decreases-loop-i : goal.decreases-loop-i
decreases-loop-i l = 16 - l.i
