-- What is proved of the definitions. Assumes nothing.
pub mod Run
pub mod Laid
pub mod Length
pub mod Holds
pub mod Order
pub mod Image
pub mod Written
pub mod Last
pub mod Shown
pub mod Reader
pub mod Rebuilt
pub mod Case4
