pub mod Pieces
pub mod Runs
pub mod Picks
pub mod Schedulers
pub mod Caches
pub mod CachedRuns
