pub mod Standing
pub mod Stood
