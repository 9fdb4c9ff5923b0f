pub mod Lists
pub mod Trace
pub mod World
pub mod Sync
pub mod Rules
mod Run
pub mod Memory
