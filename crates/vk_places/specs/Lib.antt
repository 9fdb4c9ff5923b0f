pub mod Listed
pub mod States
pub mod Walks
