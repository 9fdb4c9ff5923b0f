pub mod Directly
pub mod LedLate
pub mod Touching
pub mod Applies
pub mod Replays
pub mod Peeks
pub mod Inner
