pub mod Cutting
pub mod Finding
pub mod Ranges
pub mod Spliced
pub mod FillPieces
pub mod UpdatePieces
pub mod CopiedBytes
pub mod Counting
