pub mod Keyed
pub mod Grown
mod Heaps
pub mod Owning
pub mod Pooling
mod Sharing
mod Places
pub mod Freed
mod Releasing
pub mod Spots
mod Keeping
mod Infos
mod SharedCalls
mod Without
mod GivenBack
mod ReleasedCalls
pub mod Rewritten
mod Owned
mod Turned
mod Dedicating
mod Mapping
mod Disowning
mod DedicatedCalls
pub mod Remapped
pub mod Numbers
mod Named
pub mod Passing
pub mod PassingSteps
pub mod OpenPass
mod KeptObjects
mod CopyKeeps
mod PoolsStay
mod StaysBacked
mod Permuting
mod Naming
mod NamedMoves
mod ChangedPool
mod Targets
pub mod PoolsBy
mod ChangedMoves
mod OpenAllots
mod BeginAllots
mod UndefragAllots
mod CopyAllots
pub mod Cleared
mod PassEnded
mod CloseAllots
pub mod Opening
mod Gone
mod Closing
mod Closed
pub mod Agreeing
pub mod AgreeingSteps
pub mod Ranked
