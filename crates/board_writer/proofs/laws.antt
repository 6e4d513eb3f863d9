-- What is proved of the definitions. Assumes nothing.
-- ---- the records of a map
pub mod MapRecords
-- ---- what is written reads back
pub mod Length
pub mod Blocks
pub mod Places
pub mod Fields
pub mod Back
pub mod Covered
pub mod Front
pub mod Order
pub mod Written
pub mod Shown
pub mod Reader
-- ---- the check fields of each image that is made are right
pub mod Check
pub mod Octets
pub mod CheckFields
pub mod Numbers
-- ---- what is accepted is rebuilt to the last byte
pub mod Read
pub mod Fixed
pub mod Reserved
pub mod Records
pub mod Laid
pub mod Rebuilt
-- ---- these theorems at case 13
pub mod Case13
-- ---- how the code builds an image
pub mod Building
pub mod Sealing
