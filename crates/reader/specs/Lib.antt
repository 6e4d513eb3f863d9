-- The definitions that the contracts cite, and examples of them. Assumes nothing.
pub mod AnswerTypes
pub mod Formats
pub mod Items
pub mod Entries
pub mod Answers
pub mod Walk
pub mod Values
pub mod Examples
