-- Laws of the definitions, for other crates to cite. Assumes nothing.
pub mod Bits
pub mod Kinds
