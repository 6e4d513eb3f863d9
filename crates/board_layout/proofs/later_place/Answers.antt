-- `later_place` meets its contract: the fourth structure starts where the walk goes from the third; all lie low enough for the sums. Assumes nothing.
use Rattle.std.proofs.Common.{arith}
use Rattle.board_layout.proofs.laws.Near.{board-near}
use Rattle.board_layout.proofs.later_place.Goals as goal

pub next_from-requires : goal.next_from-requires
next_from-requires c = let near = board-near c.args.image.now (λ p. omega (arith, c.type_inv.image p)) in
    omega (arith, c.board_place.ensures, near)
