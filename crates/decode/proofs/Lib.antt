pub mod Follows
pub mod Runs
pub mod Stands
