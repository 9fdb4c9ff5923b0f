pub mod EventSets
pub mod Signaling
pub mod SameElements
