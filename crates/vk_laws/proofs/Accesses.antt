pub mod TaskNodes
pub mod TaskAccesses
pub mod Apart
pub mod HazardFree
