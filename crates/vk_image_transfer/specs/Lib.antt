pub mod Held
pub mod Rows
pub mod Pieces
pub mod Stretches
pub mod Inner
