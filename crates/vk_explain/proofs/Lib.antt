pub mod Joins
pub mod Colouring
pub mod Verdicts
pub mod Refusals
