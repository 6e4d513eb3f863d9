-- What is proved of the definitions. Assumes nothing.
pub mod Major
pub mod Strings
pub mod Serials
pub mod Agree
pub mod Alike
pub mod Same
pub mod Resolved
pub mod Rows
pub mod Shown
pub mod Part
pub mod Exactly
pub mod Front
pub mod Bounds
pub mod Told
