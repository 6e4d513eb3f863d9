-- The definitions that the contracts cite, and examples of them. Assumes nothing.
pub mod Found
pub mod Along
pub mod Chain
pub mod First
pub mod Nth
pub mod Keep
pub mod Number
pub mod All
pub mod Fill
pub mod Onward
pub mod Inside
pub mod Finds
pub mod Examples
