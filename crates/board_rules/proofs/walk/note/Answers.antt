-- `walk::note` meets its contract: a plain structure is counted and that is all (`plain-noted`); else each finding is that from before, or else what its rule
-- says here. Assumes nothing.
use Rattle.board_rules.proofs.laws.Plain.{plain-noted}
use Rattle.board_rules.proofs.walk.note.Goals as goal

pub returns-then-is_plain : goal.returns-then-is_plain
returns-then-is_plain c = let s = c.args.structure.now in plain-noted c.args.kinds s.image.now s.at (c.is_plain.ensures c.if-is_plain.true) c.args.later c.args.found

pub returns : goal.returns
returns c = rw (
  c.or.ensures,
  c.misplaced.ensures,
  c.or-2.ensures,
  c.gap_used.ensures,
  c.or-3.ensures,
  c.order_from.ensures,
  c.or-4.ensures,
  c.prom_sig.ensures,
  c.rest_after.ensures,
)
