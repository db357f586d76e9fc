pub mod Held
pub mod Holding
pub mod Told
