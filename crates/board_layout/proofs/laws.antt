-- What is proved of the definitions. Assumes nothing.

pub mod Checks
pub mod Layout
pub mod Head
pub mod Shapes
pub mod Tables
pub mod Near
pub mod Records
pub mod Same
