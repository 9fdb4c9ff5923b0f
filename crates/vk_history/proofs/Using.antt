pub mod Times
pub mod Keeping
pub mod Lasts
pub mod Waiting
pub mod Busy
