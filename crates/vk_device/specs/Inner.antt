-- What only the contracts within the crate cite.
pub mod Clean
pub mod Fits
pub mod Ready
