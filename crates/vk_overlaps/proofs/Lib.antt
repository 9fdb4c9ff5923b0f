mod Splits
mod Sides
mod Found
pub mod ListPairs
mod Places
mod Hulls
mod RowParts
