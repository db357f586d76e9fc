pub mod Grammar
pub mod Places
pub mod Steps
pub mod Texts
