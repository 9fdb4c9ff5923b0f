pub mod Starts
pub mod Helping
