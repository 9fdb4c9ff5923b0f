pub mod Points
pub mod Judging
