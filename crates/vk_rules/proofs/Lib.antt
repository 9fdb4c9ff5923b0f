pub mod Making
pub mod PartLemmas
pub mod Judging
pub mod Writing
pub mod SpanLemmas
pub mod AliasLemmas
