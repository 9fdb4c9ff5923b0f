pub mod Numbers
pub mod Subresources
pub mod Ranges
pub mod Copies
pub mod Inner
