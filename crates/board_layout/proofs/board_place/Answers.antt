-- `board_place` meets its contract: the third structure starts where the walk goes from the second; both lie low enough for the sums. Assumes nothing.
use Rattle.std.proofs.Common.{arith}
use Rattle.board_layout.proofs.laws.Near.{map-near}
use Rattle.board_layout.proofs.board_place.Goals as goal

pub next_from-requires : goal.next_from-requires
next_from-requires c = let near = map-near c.args.image.now (λ p. omega (arith, c.type_inv.image p)) in
    omega (arith, c.map_place.ensures, near)
