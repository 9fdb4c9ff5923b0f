pub mod Explained
pub mod Colours
pub mod Presented
pub mod Inner
