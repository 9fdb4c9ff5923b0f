pub mod Levels
mod Keeping
pub mod Numbering
pub mod Reached
pub mod Spans
pub mod Members
pub mod Joins
pub mod Boxes
pub mod Gathering
