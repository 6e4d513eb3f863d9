-- What is proved of the definitions. Assumes nothing.

pub mod Bytes
pub mod Parts
pub mod Spelled
pub mod Runs
pub mod Label
pub mod LabelGood
pub mod LabelBad
pub mod Same
pub mod Told
pub mod Rows
pub mod Cut
pub mod Put
pub mod Pieces
pub mod Lies
pub mod Octets
