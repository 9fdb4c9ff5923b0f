pub mod Areas
pub mod Lying
pub mod Reaching
pub mod Spread
pub mod Written
pub mod Unchanged
