-- Hexadecimal digits. Assumes nothing.
use Rattle.std.specs.Prelude.{ℕ, ◌+◌, ◌%◌, cond, ltb}

-- the character of the low four bits of n: '0' to '9', 'A' to 'F'
abbrev pub hex_digit : ℕ → ℕ
hex_digit n = cond (ltb (n % 16) 10) (0x30 + n % 16) (0x37 + n % 16)
