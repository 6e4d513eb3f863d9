-- `write` meets its contract: the numbers and bytes that it is given have the bounds of their types. Assumes nothing.
use Rattle.std.proofs.Common.{arith, rules}
use Rattle.board_writer.proofs.write.Goals as goal

pub returns : goal.returns
returns c = let w = c.well_formed.0 in (
  c.write.ensures,
  record {
    version = omega (arith, w);
    blk_length = omega (arith, w);
    page_size = omega (arith, w);
    part_size = omega (arith, w);
    board_id = omega (arith, w);
    fab_id = omega (arith, w);
    ec_id = omega (arith, w);
    part_label = search rules;
    manu_name = search rules;
    brd_name = search rules;
    brd_serial = search rules;
  },
  record {
    part_label = c.are_bytes.ensures;
    bus_number = omega (arith, w);
    master = omega (arith, w);
    speed = omega (arith, w);
    records = c.are_bytes-2.ensures;
    manu_name = c.are_bytes-3.ensures;
    brd_name = c.are_bytes-4.ensures;
    brd_serial = c.are_bytes-5.ensures;
    board_type = omega (arith, w);
    further = c.are_bytes-6.ensures;
  },
)
