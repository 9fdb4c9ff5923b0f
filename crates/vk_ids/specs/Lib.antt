pub mod Ids
pub mod Lent
