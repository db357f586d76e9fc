pub mod Positions
pub mod Readings
