-- What is proved of the definitions. Assumes nothing.

pub mod Findings
pub mod Plain
pub mod Order
pub mod Front
pub mod Walk
pub mod Heads
pub mod Accepted
pub mod Shorter
pub mod Tables
pub mod Rows
pub mod Same
pub mod Fields
pub mod BrokenPlaces
pub mod BrokenHeader
pub mod BrokenWalk
pub mod BrokenOrder
pub mod BrokenHeads
pub mod BrokenRecords
pub mod BrokenTables
pub mod BrokenReserved
pub mod BrokenInside
pub mod BrokenKnown
pub mod BrokenFields
pub mod Table
pub mod Labels
pub mod Bounds
