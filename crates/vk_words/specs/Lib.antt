pub mod MaskText
pub mod Points
pub mod Sentences
pub mod Inner
