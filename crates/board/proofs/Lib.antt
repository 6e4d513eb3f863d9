-- The laws of the definitions, which other crates may cite (laws), and what several proofs of this crate share. Assumes nothing.
pub mod Below
pub mod laws
