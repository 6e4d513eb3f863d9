-- `crc::lanes::Lanes::join` meets its contract. Each lane takes its word, and they come together (`lanes-end`).
-- Assumes nothing.
use Rattle.crc.proofs.Runs.{block}
use Rattle.crc.proofs.Stand.{lanes-end}
use Rattle.crc.proofs.lanes.Lanes.join.Goals as goal

pub returns : goal.returns
returns c = λ R st.
    let a = c.args.self in
    lanes-end R a.a0 a.a1 a.a2 a.a3 _ _ (block _ _ c.told-block c.fits-block c.as_chunks.ensures.front) st _ _ _ _
    c.word-r0.ensures c.word-r1.ensures c.word-r2.ensures c.word.ensures
