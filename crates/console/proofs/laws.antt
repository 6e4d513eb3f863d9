-- What is proved of the definitions. Assumes nothing.

pub mod Request
pub mod Parts
pub mod Bytes
pub mod Counts
pub mod Turns
