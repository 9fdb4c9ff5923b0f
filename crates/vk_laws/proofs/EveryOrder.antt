pub mod Coherent
pub mod Cells
pub mod Fresh
pub mod Coherence
pub mod Commands
pub mod Growth
pub mod Example
