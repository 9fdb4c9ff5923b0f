pub mod Calls
pub mod CalledText
pub mod CalledObject
pub mod Inner
