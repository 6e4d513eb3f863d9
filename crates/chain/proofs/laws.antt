-- What is proved of the definitions. Assumes nothing.

pub mod Below
pub mod All
pub mod Chain
pub mod Places
pub mod Agree
pub mod First
pub mod Checks
pub mod Loops
pub mod Along
pub mod Gather
pub mod Nth
pub mod Keep
pub mod Number
pub mod Ranges
pub mod Among
pub mod Apart
pub mod Steps
pub mod Fill
pub mod Onward
pub mod Inside
pub mod Finds
pub mod Means
pub mod Clauses
