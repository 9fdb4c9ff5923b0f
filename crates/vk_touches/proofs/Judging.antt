pub mod Found
pub mod Covered
pub mod Missed
pub mod Alone
pub mod Ways
pub mod Commands
