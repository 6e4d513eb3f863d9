-- The definitions that the contracts cite, and examples of them. Assumes nothing.
pub mod Places
pub mod Shapes
pub mod Tables
pub mod Layout
pub mod Examples
