-- `lay_records` meets its contract: with each turn the image holds one record more. Assumes nothing.
use Rattle.std.proofs.Common.{take, arith, rules}
use Rattle.board_writer.proofs.laws.Building.{laying-start, laying-turn}
use Rattle.board_writer.proofs.lay_records.Goals as goal

pub loop-k-init : goal.loop-k-init
loop-k-init c = laying-start _ _ _ _ (search rules)

pub loop-k-preserved : goal.loop-k-preserved
loop-k-preserved c = let a = c.args in
    laying-turn a.records.now a.block a.at (take a.at a.image.now) _ _ _ _ _ (omega arith) (omega (arith, c.requires, c.loop-k-test.true))
    c.laid_record-record.ensures c.put_at.ensures c.loop-k.invariant
