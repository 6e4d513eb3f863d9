-- The definitions that the contracts cite, and examples of them. Assumes nothing.
pub mod Parts
pub mod Image
pub mod Written
pub mod PartsOf
pub mod ReadsBack
pub mod Shown
pub mod ExampleParts
pub mod Examples
