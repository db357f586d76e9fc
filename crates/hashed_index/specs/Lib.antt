pub mod Making
pub mod Places
pub mod Spots
pub mod Keeps
