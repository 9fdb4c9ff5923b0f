mod Lists
mod Counting
mod NextBatch
mod Lining
mod Fronts
pub mod Laying
pub mod NewPoints
