-- The laws of the definitions, which other crates may cite (laws), and what only the proofs of this crate need.
-- Assumes nothing.
pub mod Braid
pub mod Entries
pub mod Field
pub mod Fold
pub mod Loads
pub mod Lookup
pub mod Runs
pub mod Stand
pub mod laws
