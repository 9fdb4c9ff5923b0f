pub mod Truths
pub mod Members
pub mod Pairs
pub mod Grids
pub mod Rows
pub mod Failing
pub mod Items
pub mod Keys
