pub mod Early
pub mod Copies
pub mod Subresources
pub mod Transitions
