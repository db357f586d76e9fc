pub mod Performing
pub mod Operating
