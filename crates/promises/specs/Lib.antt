-- The statements of the demands, the definitions that they are stated with, and instances of demand 3. Assumes nothing.
pub mod Answers
pub mod Rows
pub mod Hidden
pub mod SameOutside
pub mod ReadBack
pub mod Demand1
pub mod Demand2
pub mod Demand3
pub mod Complete
pub mod Asked
pub mod TinyInstances
pub mod BoardInstances
