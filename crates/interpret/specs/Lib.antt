pub mod Attributes
pub mod Creation
pub mod Played
