-- What only the contracts within the crate cite.
pub mod Places
pub mod Sums
pub mod Left
pub mod Fronts
pub mod Boards
