pub mod Bytes
pub mod Remembered
pub mod TouchMaps
pub mod Touched
pub mod TouchedRanges
pub mod Conflicts
