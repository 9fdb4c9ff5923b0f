-- What only the contracts within the crate cite.
pub mod Rows
pub mod Steps
pub mod Works
pub mod Images
pub mod PassEnds
