pub mod Points
pub mod Making
pub mod Transitions
pub mod Kept
pub mod Living
pub mod Using
pub mod Owning
