-- What only the contracts within the crate cite.
pub mod LayoutSteps
pub mod Mapping
pub mod Areas
pub mod Rows
pub mod Found
pub mod Begun
pub mod Uses
pub mod Submits
pub mod Users
