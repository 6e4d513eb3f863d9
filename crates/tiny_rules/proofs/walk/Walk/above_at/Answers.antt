-- `walk::Walk::above_at` meets its contract: the indexes are looked at where the tag is on the list. Assumes nothing.
use Rattle.std.proofs.Common.{sym}
use Rattle.tiny_rules.proofs.laws.Findings.{above-index}
use Rattle.tiny_rules.proofs.walk.Walk.above_at.Goals as goal

pub returns : goal.returns
returns c = let w = rw (c.index_count-count.ensures, c.of.ensures) at c.above_bytes.ensures in
    (w.more, λ n h. simp (sym c.if-not-has_tag.ensures) (above-index _ _ _ _ _ n w h))
