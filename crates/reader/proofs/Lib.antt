-- The laws of the definitions, which other crates may cite. Assumes nothing.
pub mod laws
