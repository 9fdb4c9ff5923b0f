pub mod CachedPicks
pub mod InPlace
pub mod InPlaceRuns
pub mod ThroughCaches
pub mod LateRuns
pub mod WritesStay
