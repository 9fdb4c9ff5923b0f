pub mod Happens
pub mod IsEvents
pub mod Laws
pub mod Inner
