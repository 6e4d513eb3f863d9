-- What is proved of the definitions. Assumes nothing.

pub mod Exactly
pub mod Shown
pub mod Rows
pub mod AlikeBytes
pub mod Alike
pub mod AlikeBack
pub mod Told
pub mod Both
pub mod Same
