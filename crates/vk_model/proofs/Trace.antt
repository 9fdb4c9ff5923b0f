pub mod Orders
pub mod Growing
pub mod Structure
pub mod Older
pub mod Once
pub mod PlainStructure
