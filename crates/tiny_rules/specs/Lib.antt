-- The definitions that the contracts cite, and examples of them. Assumes nothing.
pub mod Rules
pub mod Judged
pub mod Broken
pub mod Findings
pub mod Examples
