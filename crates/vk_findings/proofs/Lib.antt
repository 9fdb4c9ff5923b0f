pub mod Found
pub mod LayoutLemmas
pub mod RangeLemmas
pub mod MapLemmas
pub mod EventLemmas
pub mod OwnerLemmas
mod Walks
mod FinderLemmas
mod AreaLemmas
pub mod ListSteps
pub mod PassLemmas
pub mod BegunLemmas
pub mod CommandLemmas
pub mod TimelineLemmas
pub mod UserLemmas
pub mod BusyLemmas
