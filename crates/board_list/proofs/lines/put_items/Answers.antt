-- `lines::put_items` meets its contract: it ends, since each structure starts further on. Assumes nothing.
use Rattle.std.proofs.Common.{arith}
use Rattle.board_layout.proofs.laws.Layout.{next-grows}
use Rattle.board_list.proofs.lines.put_items.Goals as goal

pub loop-at-smaller : goal.loop-at-smaller
loop-at-smaller g c = omega (arith, c.next_place-at.ensures, next-grows c.args.image.now c.loop-at.at)
