-- `records::gpio_record_of` meets its contract: a structure starts before StructLen, so its place fits in 32 bits. Assumes nothing.
use Rattle.std.proofs.Common.{sym, ◌∙◌, arith}
use Rattle.board_layout.proofs.laws.Layout.{structure-below}
use Rattle.octets.proofs.laws.Bytes.{le32-below}
use Rattle.board.proofs.records.gpio_record_of.Goals as goal

pub overflow_cast-at : goal.overflow_cast-at
overflow_cast-at c = let a = c.args in
    omega (arith, structure-below a.image.now a.item _ (sym c.structure_place.ensures ∙ c.in_ok-at.was), le32-below a.image.now (λ k. omega (arith, c.shared_slice_known-1.given k)) 0x10)
