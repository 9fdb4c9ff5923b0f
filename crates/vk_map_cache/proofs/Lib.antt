pub mod CellLemmas
pub mod HoldingLemmas
pub mod MarkLemmas
pub mod TurnLemmas
pub mod SpanLemmas
pub mod HostLemmas
pub mod QueueLemmas
