mod Arrange
mod LinePrefixes
mod NodeEdges
mod ByEdges
pub mod ElementPlaces
mod Visibility
pub mod LastWriter
mod ActLemmas
pub mod RowLemmas
mod AwaitingLemmas
mod EdgeLemmas
mod ClockLemmas
mod LineTests
mod KeptLemmas
pub mod NamedLemmas
mod ListLemmas
mod PointLemmas
pub mod BeforeLemmas
mod SetLemmas
mod KnownRows
mod RowJoins
mod CountLemmas
mod FrontLemmas
mod NameLemmas
mod WaitLemmas
mod OwnLemmas
mod OwnCounts
mod TallyLemmas
mod NewNodeLemmas
mod LimitedLemmas
mod CachedLemmas
mod PartLemmas
mod ServeLemmas
mod UnitLemmas
pub mod UnseenLemmas
mod FollowLemmas
pub mod SiblingLemmas
mod BarrierLemmas
mod StampedLemmas
pub mod PlaceLemmas
mod SubmissionLemmas
pub mod AvailabilityLemmas
mod AfterLemmas
mod SeenLemmas
