-- What is proved of the definitions. Assumes nothing.
pub mod Kept
pub mod Accepted
pub mod Refused
pub mod Bounds
pub mod Agree
pub mod Numbers
pub mod Table
