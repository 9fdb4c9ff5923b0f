pub mod Ran
pub mod Fills
pub mod Updates
pub mod Copies
pub mod Counted
pub mod Stretches
pub mod Inner
