pub mod BoundMemory
pub mod Requirements
pub mod Judging
pub mod Inner
