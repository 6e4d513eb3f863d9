-- The definitions that the contracts cite, and examples of them. Assumes nothing.
pub mod Reference
pub mod Layout
pub mod Tags
pub mod Tables
pub mod Strings
pub mod Pool
pub mod Examples
