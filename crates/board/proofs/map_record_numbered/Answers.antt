-- `map_record_numbered` meets its contract: the verdict, then the place of the number. The map and its records start before StructLen, so their places fit
-- in 32 bits. Assumes nothing.
use Rattle.std.proofs.Common.{◌≡◌, sym, ◌∙◌, arith, Some}
use Rattle.board_layout.specs.Layout.{map_at, records}
use Rattle.board_layout.specs.declared.Records.TheVariants.{Map}
use Rattle.board_rules.proofs.laws.Accepted.{map-second}
use Rattle.board.proofs.Below.{map-record-below}
use Rattle.chain.specs.Nth.{nth}
use Rattle.octets.proofs.laws.Bytes.{le32-below}
use Rattle.board.proofs.map_record_numbered.Goals as goal

pub overflow_cast-map : goal.overflow_cast-map
overflow_cast-map c = let a = c.args in
    omega (arith, c.map_place-map.ensures, (map-second a.kinds a.image.now _ (sym c.judge.ensures ∙ c.in_ok-judge.was)).0, le32-below a.image.now (λ k. omega (arith, c.shared_slice_known-1.given k)) 0x10)

pub overflow_cast-at : goal.overflow_cast-at
overflow_cast-at c = let a = c.args in
    let s = a.image.now in
    let there : nth (records Map s (map_at s)) a.number ≡ Some c.in_ok-at.at = rw (c.record_place.ensures, c.map_place-map.ensures) at c.in_ok-at.ensures.ok_part in
    omega (arith, map-record-below a.kinds s _ (sym c.judge.ensures ∙ c.in_ok-judge.was) a.number _ there, le32-below s (λ k. omega (arith, c.shared_slice_known-1.given k)) 0x10)
