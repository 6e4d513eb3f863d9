-- What is proved of the definitions. Assumes nothing.
pub mod Formats
pub mod Items
pub mod List
pub mod Walk
