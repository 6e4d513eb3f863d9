-- `crc::crc8::crc8` meets its contract. From 0 the running form gives the remainder of the division (`crc8-run`).
-- Assumes nothing.
use Rattle.std.proofs.Common.{sym, ◌∙◌, arith}
use Rattle.crc.proofs.laws.Crc8.{crc8-run}
use Rattle.crc.proofs.crc8.crc8.Goals as goal

pub returns : goal.returns
returns c = let s = c.args.s.now in
    c.crc8_run.ensures ∙ sym (crc8-run s (λ k. omega (arith, c.type_inv.s k)))
