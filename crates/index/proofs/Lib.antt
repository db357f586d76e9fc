pub mod Pigeons
pub mod Entries
pub mod Holding
