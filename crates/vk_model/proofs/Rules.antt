pub mod Table
pub mod Fault
pub mod Limits
