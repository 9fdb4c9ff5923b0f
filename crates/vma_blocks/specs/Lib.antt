pub mod Alike
pub mod PoolInfos
pub mod Blocks
