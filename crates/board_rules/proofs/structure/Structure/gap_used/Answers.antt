-- `Structure::gap_used` meets its contract. The next structure does not start before the end of this one (`end-next`), so the difference is a number.
-- Assumes nothing.
use Rattle.std.proofs.Common.{arith}
use Rattle.board_layout.proofs.laws.Layout.{end-next}
use Rattle.board_rules.proofs.structure.Structure.gap_used.Goals as goal

pub overflow_sub-after : goal.overflow_sub-after
overflow_sub-after c = let s = c.args.self.now in omega (arith, c.finish-finish.ensures, c.after.ensures, end-next s.image.now s.at)
