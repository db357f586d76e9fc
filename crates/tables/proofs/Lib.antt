pub mod Places
pub mod Writings
pub mod Gathered
pub mod Booked
pub mod Changing
pub mod Emptied
pub mod Memory
