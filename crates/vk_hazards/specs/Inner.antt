-- What only the contracts within the crate cite.
pub mod IsRead
pub mod Parts
pub mod Pairs
pub mod IsKept
pub mod Availability
pub mod Found
