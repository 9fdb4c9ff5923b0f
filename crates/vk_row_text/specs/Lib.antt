pub mod Names
pub mod Words
pub mod Regions
pub mod Rows
pub mod Texts
pub mod Steps
pub mod Telling
