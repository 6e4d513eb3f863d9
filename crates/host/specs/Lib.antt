-- The definitions that the contracts cite, and examples of them. Assumes nothing.
pub mod Numbers
pub mod Version
pub mod Examples
