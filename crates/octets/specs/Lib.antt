-- The definitions that the contracts cite, and examples of them. Assumes nothing.
pub mod Bytes
pub mod Runs
pub mod Cut
pub mod Put
pub mod Label
pub mod Rows
pub mod Examples
