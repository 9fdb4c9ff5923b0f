-- What only the contracts within the crate cite.
pub mod Starting
pub mod Rows
