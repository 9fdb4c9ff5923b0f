pub mod Definitions
pub mod Objects
pub mod Commands
pub mod Order
pub mod Access
pub mod Misread
pub mod HazardsMisread
pub mod RunsMisread
