-- What only the contracts within the crate cite.
pub mod Coloured
pub mod Repaired
