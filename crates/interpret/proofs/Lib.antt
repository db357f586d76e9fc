pub mod Reading
pub mod Playing
pub mod Following
pub mod Creations
