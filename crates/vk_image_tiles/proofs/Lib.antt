pub mod Levels
pub mod LevelBounds
pub mod TexelPlaces
pub mod RowPlaces
pub mod RunLemmas
