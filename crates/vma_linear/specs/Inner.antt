pub mod Slots
pub mod Gaps
pub mod Blocks
pub mod Widest
