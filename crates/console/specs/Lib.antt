-- The definitions that the contracts cite, and examples of them. Assumes nothing.
pub mod Counts
pub mod Digit
pub mod Request
pub mod Show
pub mod Examples
