-- The laws of the definitions, which other crates may cite (laws), and laws that only the proofs of this crate need. Assumes nothing.
pub mod Absent
pub mod laws
