-- The definitions that the contracts cite, and examples of them. Assumes nothing.
pub mod AnswerTypes
pub mod Items
pub mod Records
pub mod Answers
pub mod Values
pub mod Shown
pub mod NotShown
pub mod Silent
pub mod Examples
pub mod FieldExamples
