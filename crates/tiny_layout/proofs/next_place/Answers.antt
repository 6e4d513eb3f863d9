-- `next_place` meets its contract: past the item's head and data. Assumes nothing.
use Rattle.std.proofs.Common.{rules, arith}
use Rattle.octets.specs.Bytes.{byte}
use Rattle.tiny_layout.specs.Layout.{next}
use Rattle.tiny_layout.proofs.laws.Layout.{head-bounds, length-bound}
use Rattle.tiny_layout.proofs.next_place.Goals as goal

pub overflow_add-result : goal.overflow_add-result
overflow_add-result c = let a = c.args in
    omega (arith, c.item_size.ensures, (head-bounds (byte a.image.now a.at)).1, length-bound a.image.now a.at (λ p. omega (arith, c.type_inv.image p)))

pub returns : goal.returns
unfolding next
returns c = search rules
