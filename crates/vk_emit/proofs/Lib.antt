mod Joins
mod Stepping
