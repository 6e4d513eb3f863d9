-- `crc::crc32::crc32_field_as_zero` meets its contract. Three runs, one after the other, are the run of the list with the field counted as zero (`run-blank`).
-- Assumes nothing.
use Rattle.std.proofs.Common.{ℕ, ap, bit_xor}
use Rattle.crc.specs.Crc32.{crc32}
use Rattle.crc.proofs.Field.{run-blank}
use Rattle.crc.proofs.crc32.crc32_field_as_zero.Goals as goal

pub returns : goal.returns
unfolding crc32
returns c = ap (λ (x : ℕ). bit_xor x 0xFFFF_FFFF)
    (run-blank _ _ c.args.s.now c.min-at.ensures c.min-end.ensures 0xFFFF_FFFF _ _ c.run.result
    c.run_words-before.ensures c.run_words-field.ensures c.run.ensures)
