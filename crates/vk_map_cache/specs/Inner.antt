-- What only the contracts within the crate cite.
pub mod Marks
pub mod AreMarks
pub mod Objects
