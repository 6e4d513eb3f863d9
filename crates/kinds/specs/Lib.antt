-- The definitions that the contracts cite, and examples of them. Assumes nothing.
pub mod Signatures
pub mod Kinds
pub mod Examples
