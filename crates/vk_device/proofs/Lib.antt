pub mod Unbroken
pub mod CleanImages
mod CleanPools
pub mod Clean
mod Limits
pub mod Following
mod Staying
mod Sources
pub mod Running
pub mod Picking
mod PassStates
mod PassRules
mod PassPasts
mod PassStands
mod PassBytes
mod PassCaches
pub mod KeptPasses
pub mod Becoming
mod Copying
mod PlainEntries
mod Changing
mod PassParts
pub mod Coming
mod Touching
mod Resting
pub mod Entering
pub mod WholeEntries
pub mod Allocating
pub mod TracePicks
pub mod WholeTraces
