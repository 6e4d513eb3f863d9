-- `bytes_at` meets its contract: each turn stores the byte of its number (`fill-turn`), and the last one leaves nothing else (`filled-all`). Assumes nothing.
use Rattle.std.proofs.Common.{◌∙◌, ◌+◌, arith, length-set}
use Rattle.std.proofs.lemmas.List.{length-replicate}
use Rattle.chain.proofs.laws.Fill.{fill-start, fill-turn, fill-done, filled-all}
use Rattle.octets.specs.Bytes.{byte}
use Rattle.octets.proofs.bytes_at.Goals as goal

pub loop-i-init : goal.loop-i-init
loop-i-init g c =
    record { stored = fill-start _ _; long = length-replicate g.row.N 0; whole = length-replicate g.row.N 0 }

pub loop-i-preserved : goal.loop-i-preserved
loop-i-preserved g c = let a = c.args in
    let l = c.loop-i in
    record {
      stored = rw c.byte_from.ensures (fill-turn (λ j. byte a.s.now (a.at + j)) l.i _ _ (omega (arith, l.invariant.whole)) l.invariant.stored);
      long = length-set l.bytes l.i c.byte_from.result ∙ l.invariant.long;
      whole = l.invariant.whole;
    }

pub returns : goal.returns
returns g c = let a = c.args in
    let l = c.loop-i in
    fill-done (λ j. byte a.s.now (a.at + j)) l.i g.row.N _ _ (omega arith) l.invariant.stored ∙ filled-all _ g.row.N _ l.invariant.whole
