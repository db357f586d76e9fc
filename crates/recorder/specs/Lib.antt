pub mod Answers
pub mod Performs
pub mod Strings
pub mod Defaults
pub mod Decisions
pub mod Setup
