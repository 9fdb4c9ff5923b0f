pub mod Owned
pub mod ImageLayouts
pub mod Inner
