pub mod Pieces
pub mod AreLate
pub mod Touches
pub mod Happening
pub mod Inner
