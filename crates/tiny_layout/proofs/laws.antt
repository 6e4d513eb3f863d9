-- What is proved of the definitions. Assumes nothing.

pub mod Layout
pub mod Strings
pub mod Texts
pub mod Tags
pub mod Tables
pub mod Pool
pub mod Same
pub mod Split
