pub mod PastLemmas
pub mod CreatorLemmas
pub mod DoingLemmas
pub mod UntilLemmas
pub mod Members
pub mod AreaLemmas
pub mod CommandAreas
pub mod AlikeLemmas
pub mod RowNodes
pub mod SeenAlike
pub mod HazardLemmas
pub mod LifeLemmas
pub mod StrayLemmas
pub mod FaultLemmas
mod FirstLemmas
mod EdgeLemmas
mod AvailabilityLemmas
mod VisibilityLemmas
mod MissingLemmas
mod ExactLemmas
mod LinkFaultLemmas
