-- What only the contracts within the crate cite.
pub mod CatchingUp
