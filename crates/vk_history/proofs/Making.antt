pub mod JudgedIds
pub mod Worlds
pub mod Ended
pub mod Numbers
