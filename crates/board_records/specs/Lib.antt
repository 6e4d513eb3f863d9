-- The definitions that the contracts cite, and an example of them. Assumes nothing.
pub mod Records
pub mod Examples
