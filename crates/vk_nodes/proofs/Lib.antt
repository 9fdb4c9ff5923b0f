mod BlockValues
mod BlockWalks
pub mod SlotLemmas
mod ColumnLemmas
mod StackLemmas
mod FilledLemmas
mod BlockRows
mod BlockCrossing
