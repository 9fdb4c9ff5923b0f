pub mod Clear
mod Neighbors
mod Refusals
mod Firsts
mod Asked
mod Types
mod Judging
