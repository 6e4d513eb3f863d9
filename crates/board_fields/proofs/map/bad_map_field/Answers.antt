-- `map::bad_map_field` meets its contract: the six checks in their order. Assumes nothing.
use Rattle.board_fields.specs.Map.{bad_map_field}
use Rattle.board_layout.proofs.laws.Checks.{then-when, six-checks}
use Rattle.board_fields.proofs.map.bad_map_field.Goals as goal

pub returns : goal.returns
unfolding bad_map_field
returns c = simp (c.or-5.ensures, c.or-4.ensures, c.or-3.ensures, c.or-2.ensures, c.or.ensures, c.bad_label.ensures, c.then_some.ensures, c.le32_at-block.ensures, c.then_some-2.ensures, c.le32_at-part.ensures, c.times.ensures, c.map_count.ensures, c.then_some-3.ensures, c.struct_len.ensures, c.then_some-4.ensures, c.byte_at.ensures, c.then_some-5.ensures, c.byte_at-2.ensures, then-when, six-checks)
