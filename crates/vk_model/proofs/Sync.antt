pub mod Numbers
pub mod Paths
pub mod Growth
pub mod NewNodes
pub mod HostActs
pub mod EdgeKinds
