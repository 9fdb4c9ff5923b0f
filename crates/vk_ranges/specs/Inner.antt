-- What only the contracts within the crate cite.
pub mod Joins
pub mod Plans
pub mod Edges
pub mod Walks
pub mod Chunks
