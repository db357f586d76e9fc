pub mod Performing
pub mod Stringing
pub mod Defaulting
pub mod Sampling
pub mod Starting
