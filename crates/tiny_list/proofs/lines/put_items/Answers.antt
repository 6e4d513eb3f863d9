-- `lines::put_items` meets its contract: each turn goes on by an item, which has at least one byte. Assumes nothing.
use Rattle.std.proofs.Common.{arith}
use Rattle.octets.specs.Bytes.{byte}
use Rattle.tiny_layout.proofs.laws.Layout.{head-bounds}
use Rattle.tiny_list.proofs.lines.put_items.Goals as goal

pub loop-at-smaller : goal.loop-at-smaller
loop-at-smaller g c = omega (arith, c.item_size.ensures, (head-bounds (byte c.args.image.now c.loop-at.at)).0)
