-- What only the contracts within the crate cite.
pub mod Kinds
pub mod Walk
pub mod Lower
pub mod Settling
pub mod Counts
pub mod Listed
pub mod Numbers
