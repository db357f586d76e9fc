pub mod Steps
pub mod TableRows
pub mod Lookups
