pub mod Pieces
pub mod Apart
