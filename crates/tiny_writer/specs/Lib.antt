-- The definitions that the contracts cite, and examples of them. Assumes nothing.
pub mod Measured
pub mod Run
pub mod Image
pub mod Written
pub mod PartsOf
pub mod ReadsBack
pub mod Building
pub mod Examples
