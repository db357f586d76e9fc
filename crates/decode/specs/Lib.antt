pub mod Faults
pub mod Operands
pub mod Operations
pub mod Rows
pub mod Runs
pub mod Table
