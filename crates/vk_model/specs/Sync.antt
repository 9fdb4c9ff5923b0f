pub mod Node
pub mod Edge
pub mod Before
pub mod Seen
pub mod Access
pub mod Complete
