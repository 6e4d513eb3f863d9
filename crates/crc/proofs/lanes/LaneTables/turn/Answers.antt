-- `crc::lanes::LaneTables::turn` meets its contract. Each lane takes its word (`lanes-turn`).
-- Assumes nothing.
use Rattle.crc.proofs.Runs.{block}
use Rattle.crc.proofs.Stand.{lanes-turn}
use Rattle.crc.proofs.lanes.LaneTables.turn.Goals as goal

pub returns : goal.returns
returns c = λ R st.
    let a = c.args.lanes in
    lanes-turn R a.a0 a.a1 a.a2 a.a3 _ _ (block _ _ c.told-block c.fits-block c.as_chunks.ensures.front) st _ _ _ _
    c.lane.ensures c.lane-2.ensures c.lane-3.ensures c.lane-4.ensures
