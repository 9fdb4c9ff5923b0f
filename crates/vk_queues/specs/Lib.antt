pub mod PointViews
pub mod IsWaiting
pub mod Laws
pub mod Inner
