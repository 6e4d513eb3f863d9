-- The version of what C calls: 1.2.0, as major * 10000 + minor * 100 + patch (chip/chip.h: CHIP_VERSION). Assumes nothing.
use Rattle.std.specs.Prelude.{ℕ, ◌+◌, ◌*◌}

abbrev pub version : ℕ
version = 1 * 10000 + 2 * 100 + 0
