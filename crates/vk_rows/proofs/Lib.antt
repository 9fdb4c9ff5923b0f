mod Holding
mod ByPlace
