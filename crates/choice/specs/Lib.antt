-- The definitions that the contracts cite, and examples of them. Assumes nothing.
pub mod AnswerTypes
pub mod Boards
pub mod Choice
pub mod Examples
