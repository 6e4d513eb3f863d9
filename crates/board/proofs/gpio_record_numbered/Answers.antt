-- `gpio_record_numbered` meets its contract: the verdict, then the place of the number. The records start before StructLen, so their places fit in 32
-- bits. Assumes nothing.
use Rattle.std.proofs.Common.{◌≡◌, sym, ◌∙◌, arith, Some}
use Rattle.board_layout.specs.Layout.{structures}
use Rattle.board.proofs.Below.{gpio-record-below}
use Rattle.board.specs.Answers.{gpio_records_at}
use Rattle.chain.specs.Nth.{nth}
use Rattle.octets.proofs.laws.Bytes.{le32-below}
use Rattle.board.proofs.gpio_record_numbered.Goals as goal

pub overflow_cast-at : goal.overflow_cast-at
overflow_cast-at c = let a = c.args in
    let s = a.image.now in
    let there : gpio_records_at a.kinds s a.number (nth (structures s) a.item) ≡ Some c.in_ok-at.at = rw c.gpio_record_of.ensures at c.in_ok-at.ensures.ok_part in
    omega (arith, gpio-record-below a.kinds s _ (sym c.judge.ensures ∙ c.in_ok-judge.was) a.item a.number _ there, le32-below s (λ k. omega (arith, c.shared_slice_known-1.given k)) 0x10)
