pub mod Numbers
pub mod OpCodes
pub mod Reads
pub mod Traces
