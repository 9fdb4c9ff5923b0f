pub mod PointSources
pub mod BeforeNodes
pub mod ModelBytes
