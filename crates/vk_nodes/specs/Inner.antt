-- What only the contracts within the crate cite.
pub mod Ownership
pub mod Lends
pub mod Columns
pub mod IsStore
pub mod FreeStack
pub mod IsFilled
