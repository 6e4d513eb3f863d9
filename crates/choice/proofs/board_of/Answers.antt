-- `board_of` meets its contract: the board structure of any image starts low enough for the sums. Assumes nothing.
use Rattle.std.proofs.Common.{arith}
use Rattle.board_layout.proofs.laws.Near.{board-near}
use Rattle.choice.proofs.board_of.Goals as goal

pub overflow_add-at : goal.overflow_add-at
overflow_add-at c = omega (arith, c.board_place-at.ensures, board-near c.args.image.now (λ k. omega (arith, c.type_inv.image k)))

pub overflow_add-at-2 : goal.overflow_add-at-2
overflow_add-at-2 c = omega (arith, c.board_place-at.ensures, board-near c.args.image.now (λ k. omega (arith, c.type_inv.image k)))

pub overflow_add-at-3 : goal.overflow_add-at-3
overflow_add-at-3 c = omega (arith, c.board_place-at.ensures, board-near c.args.image.now (λ k. omega (arith, c.type_inv.image k)))

pub overflow_add-at-4 : goal.overflow_add-at-4
overflow_add-at-4 c = omega (arith, c.board_place-at.ensures, board-near c.args.image.now (λ k. omega (arith, c.type_inv.image k)))

pub overflow_add-at-5 : goal.overflow_add-at-5
overflow_add-at-5 c = omega (arith, c.board_place-at.ensures, board-near c.args.image.now (λ k. omega (arith, c.type_inv.image k)))

pub overflow_add-at-6 : goal.overflow_add-at-6
overflow_add-at-6 c = omega (arith, c.board_place-at.ensures, board-near c.args.image.now (λ k. omega (arith, c.type_inv.image k)))
