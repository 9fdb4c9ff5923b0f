pub mod Holdings
pub mod Inner
