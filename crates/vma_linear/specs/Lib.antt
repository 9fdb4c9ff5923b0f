pub mod Inner
pub mod SoundRanges
