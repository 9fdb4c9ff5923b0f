pub mod Gives
pub mod Ahead
