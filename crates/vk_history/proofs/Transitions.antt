pub mod Undefined
pub mod Keeping
pub mod Elements
pub mod Named
