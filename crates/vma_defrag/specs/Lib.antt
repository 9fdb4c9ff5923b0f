pub mod State
pub mod Plans
pub mod Passes
pub mod Bytes
pub mod Ends
pub mod Inner
