-- `crc::crc32::crc32` meets its contract. The register is inverted.
-- Assumes nothing.
use Rattle.std.proofs.Common.{ℕ, ap, bit_xor}
use Rattle.crc.specs.Crc32.{crc32}
use Rattle.crc.proofs.crc32.crc32.Goals as goal

pub returns : goal.returns
unfolding crc32
returns c = ap (λ (x : ℕ). bit_xor x 0xFFFF_FFFF) c.crc32_run.ensures
