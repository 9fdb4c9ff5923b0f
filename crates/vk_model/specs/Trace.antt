pub mod Point
pub mod Objects
pub mod Order
pub mod Structure
pub mod Image
pub mod PointViews
