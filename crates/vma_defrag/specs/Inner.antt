pub mod Planned
pub mod Choosing
pub mod Ending
pub mod Held
pub mod Copying
pub mod Cursors
pub mod Following
