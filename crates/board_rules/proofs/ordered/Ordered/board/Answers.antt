-- `Ordered::board` meets its contract: by rule 25 the third structure starts before StructLen, so its place fits in 32 bits. Assumes nothing.
use Rattle.std.proofs.Common.{arith}
use Rattle.board_rules.proofs.laws.Order.{board-low}
use Rattle.board_rules.proofs.ordered.Ordered.board.Goals as goal

pub overflow_cast-result : goal.overflow_cast-result
overflow_cast-result c = let s = c.args.self.now in omega (arith, c.board_place.ensures, board-low s.image.now s.bytes s.ordered)
