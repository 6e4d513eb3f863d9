-- `Ordered::map` meets its contract: by rule 25 the second structure starts before StructLen, so its place fits in 32 bits. Assumes nothing.
use Rattle.std.proofs.Common.{arith}
use Rattle.board_rules.proofs.laws.Order.{map-low}
use Rattle.board_rules.proofs.ordered.Ordered.map.Goals as goal

pub overflow_cast-result : goal.overflow_cast-result
overflow_cast-result c = let s = c.args.self.now in omega (arith, c.map_place.ensures, map-low s.image.now s.bytes s.ordered)
