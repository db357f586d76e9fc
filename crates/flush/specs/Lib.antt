pub mod Found
pub mod Operation
pub mod Flushes
