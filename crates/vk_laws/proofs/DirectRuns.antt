pub mod Unheld
pub mod Passing
pub mod RunsOn
pub mod Values
pub mod Inside
pub mod NewMemory
