pub mod Backed
pub mod Allotted
pub mod Spots
pub mod Steps
pub mod Passing
pub mod PassSteps
pub mod PassAllots
