-- Laws of the definitions: of the checks themselves (Crc8, Crc32, Division, Blank), and what those rest on (Xor, Remainder).
-- Assumes nothing.
pub mod Xor
pub mod Remainder
pub mod Crc8
pub mod Division
pub mod Crc32
pub mod Blank
