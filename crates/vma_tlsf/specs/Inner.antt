pub mod Chain
pub mod Steps
pub mod Changes
pub mod Wants
pub mod Fits
pub mod Sound
pub mod IsTlsf
pub mod Listed
