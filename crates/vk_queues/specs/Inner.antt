-- What only the contracts within the crate cite.
pub mod Tallied
pub mod Lined
pub mod AreWaiting
