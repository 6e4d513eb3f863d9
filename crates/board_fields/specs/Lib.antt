-- The definitions that the contracts cite. Assumes nothing.
pub mod Heads
pub mod Hash
pub mod Map
pub mod Reserved
pub mod Inside
