pub mod Commands
pub mod Offering
pub mod Growing
mod Finishing
pub mod Steps
pub mod Coming
mod Waiting
pub mod PiecesLeft
pub mod Agreeing
mod RowsAlone
mod RowCounts
mod FrontLemmas
mod Happening
