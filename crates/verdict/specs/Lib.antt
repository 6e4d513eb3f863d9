-- The definitions that the contracts cite, and examples of them. Assumes nothing.
pub mod Answers
pub mod Verdict
pub mod Table
pub mod Said
pub mod Written
pub mod Examples
