pub mod Busy
pub mod Named
pub mod Pairs
pub mod Halves
pub mod Elements
