pub mod Places
pub mod Stands
