pub mod Parts
pub mod Inserts
pub mod Fields
pub mod Done
pub mod Made
