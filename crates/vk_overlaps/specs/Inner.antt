pub mod Planes
pub mod Places
pub mod Rows
