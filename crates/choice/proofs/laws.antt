-- What is proved of the definitions. Assumes nothing.

pub mod Boards
pub mod Exactly
pub mod Parts
pub mod Lent
pub mod Said
pub mod Examples
