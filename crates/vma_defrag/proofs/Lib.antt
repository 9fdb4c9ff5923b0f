pub mod Objects
pub mod KeptBlocks
pub mod Aligned
pub mod Spots
pub mod Copying
pub mod PartNumbers
mod PartSteps
mod Marking
pub mod Settles
mod Chains
pub mod Endings
mod Taking
pub mod Following
pub mod KeptBytes
mod PassEnds
mod Indices
pub mod Likeness
mod Chain
mod Blocks
mod GivenBack
mod Cancelling
mod Left
mod Step
mod Searches
mod Walk
mod Turns
pub mod Matched
mod NoneToMove
