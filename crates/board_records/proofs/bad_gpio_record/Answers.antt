-- `bad_gpio_record` meets its contract: the four checks in their order. Assumes nothing.
use Rattle.std.proofs.Common.{add-zero}
use Rattle.board_records.specs.Records.{bad_gpio_record}
use Rattle.board_layout.proofs.laws.Checks.{then-when, four-checks}
use Rattle.board_records.proofs.bad_gpio_record.Goals as goal

pub returns : goal.returns
unfolding bad_gpio_record
returns c = simp (c.or-3.ensures, c.or-2.ensures, c.or.ensures, c.bad_label.ensures, c.then_some.ensures, c.le32_at.ensures, c.then_some-2.ensures, c.is_data_size.ensures, c.byte_at.ensures, c.then_some-3.ensures, c.byte_at-2.ensures, then-when, add-zero, four-checks)
