-- `Parts::lay_body` meets its contract: each part is put where the one before it ends. Assumes nothing.
use Rattle.std.proofs.Common.{◌≡◌, length, refl, arith, rules}
use Rattle.board_writer.specs.Parts.{given}
use Rattle.board_writer.proofs.laws.Building.{holds-body}
use Rattle.board_writer.proofs.Parts.lay_body.Goals as goal

pub lay_records-requires : goal.lay_records-requires
lay_records-requires c = omega (arith, c.header_length-start.ensures, c.requires)

pub returns : goal.returns
returns c = let a = c.args in
    let long : length a.image.now ≡ 65536 = search rules in
    holds-body (given a.self.now) a.image.now c.requires long _ c.header_length-start.ensures _ _ _ _ _ _ _ c.map_bytes-head.ensures c.put_at.ensures
    c.lay_records.ensures refl c.board_bytes-info.ensures c.put_at-2.ensures c.put_at-3.ensures
