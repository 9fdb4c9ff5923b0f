pub mod Lags
pub mod Inner
