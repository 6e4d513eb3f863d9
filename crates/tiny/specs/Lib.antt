-- The definitions that the contracts cite, the paper's cases, and examples. Assumes nothing.
pub mod AnswerTypes
pub mod Major
pub mod Items
pub mod Answers
pub mod Values
pub mod Texts
pub mod Shown
pub mod NotShown
pub mod Cases
pub mod Examples
pub mod FieldExamples
