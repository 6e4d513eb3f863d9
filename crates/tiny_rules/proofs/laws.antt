-- What is proved of the definitions. Assumes nothing.

pub mod Accepted
pub mod Shorter
pub mod Range
pub mod Same
pub mod Front
pub mod BrokenHead
pub mod BrokenItems
pub mod BrokenData
pub mod Table
pub mod Bounds
pub mod Findings
