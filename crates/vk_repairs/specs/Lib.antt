pub mod Starts
pub mod Repairs
pub mod Inner
