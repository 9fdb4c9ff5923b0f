-- What only the contracts within the crate cite.
pub mod Hooks
pub mod Hanging
pub mod Described
