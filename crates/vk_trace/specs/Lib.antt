pub mod Members
pub mod Trace
pub mod Inner
pub mod Text
pub mod Streams
pub mod Watching
pub mod TextExamples
