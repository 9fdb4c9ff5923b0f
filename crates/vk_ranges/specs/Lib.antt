pub mod Runs
pub mod Overlaps
pub mod Inner
