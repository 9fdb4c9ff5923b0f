mod HookLemmas
mod HangingLemmas
mod SettledLemmas
mod HungLemmas
mod FreeLemmas
mod LeftLemmas
mod EventLemmas
pub mod UnseenLemmas
mod Describing
pub mod LeftNumbers
