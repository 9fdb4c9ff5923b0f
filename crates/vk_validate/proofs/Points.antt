pub mod Queues
pub mod Calm
