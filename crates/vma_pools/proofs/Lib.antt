pub mod PoolAlike
pub mod RangesAlike
mod WalkLemmas
mod PoolLemmas
pub mod RoomLemmas
mod FreeLemmas
mod KindLemmas
mod LowerLemmas
mod TargetLemmas
pub mod Exhausted
mod SearchLemmas
mod LargestLemmas
pub mod RangeLemmas
pub mod AlikeRanges
pub mod NumberLemmas
pub mod StateLemmas
pub mod EndedLemmas
pub mod CallLemmas
pub mod BacksLemmas
pub mod ReleaseLemmas
pub mod ReservedLemmas
pub mod MovingLemmas
pub mod ExhaustedFor
pub mod CountLemmas
pub mod CountedLemmas
pub mod SettledLemmas
pub mod SettledBacks
pub mod ResidentLemmas
mod KeptNumbers
mod ListingLemmas
mod ViewLemmas
