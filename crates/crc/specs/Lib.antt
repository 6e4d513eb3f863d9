-- The definitions of crc, and examples of them.
-- Assumes nothing.
pub mod Crc8
pub mod Division
pub mod Crc32
pub mod Blank
pub mod Examples
pub mod Tables
