pub mod Rows
pub mod Model
pub mod Fair
pub mod Floats
pub mod Tables
pub mod Worked
