pub mod Extents
pub mod Regions
pub mod Boxes
pub mod Inner
