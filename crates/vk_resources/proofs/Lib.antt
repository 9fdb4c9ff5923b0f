mod Placing
pub mod Lying
pub mod Keeping
pub mod CachedBytes
mod CachedRest
mod Splicing
mod CachedSteps
mod Commands
mod WrittenRows
mod WrittenBytes
mod ImageSteps
pub mod Matching
pub mod Fitting
pub mod ImageFitting
mod Living
mod Binding
mod Applying
mod Putting
mod Resting
mod Backing
mod Sharing
mod PoolEntries
mod PoolEnds
pub mod HostAccesses
mod Ending
mod Allotting
mod Making
pub mod Requests
mod Remapping
mod Sparing
mod WritingBack
mod CopyingParts
pub mod KeptCopies
pub mod RestThrough
pub mod AllottedPasses
mod PuttingAnew
mod MovedPlaces
mod EndingPasses
mod EndedCells
