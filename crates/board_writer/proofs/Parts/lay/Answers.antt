-- `Parts::lay` meets its contract: the check fields are worked out over the image as it is laid so far. Assumes nothing.
use Rattle.std.proofs.Common.{◌≡◌, length, arith, rules}
use Rattle.board_writer.specs.Parts.{given}
use Rattle.board_writer.proofs.laws.CheckFields.{covers-small}
use Rattle.board_writer.proofs.laws.Sealing.{covers-is, front-long, laid-image}
use Rattle.board_writer.proofs.Parts.lay.Goals as goal

pub overflow_cast-covers : goal.overflow_cast-covers
overflow_cast-covers c = let a = c.args in
    let pre = c.requires in
    let x = given a.self.now in
    let long : length a.block.now ≡ 65536 = search rules in
    omega (
      arith,
      covers-is x a.end pre.0 pre.1 _ (front-long x a.block.now long) c.lay_body.ensures c.lay_header.ensures c.covered_length-covers.ensures,
      covers-small x (omega (arith, pre.0, pre.1)),
    )

pub returns : goal.returns
returns c = let a = c.args in
    let pre = c.requires in
    let x = given a.self.now in
    let long : length a.block.now ≡ 65536 = search rules in
    laid-image x a.end pre.0 pre.1 _ (front-long x a.block.now long) c.lay_body.ensures c.lay_header.ensures c.covered_length-covers.ensures c.lay_header-2.ensures
    c.check_over-check.ensures c.lay_header-3.ensures
