pub mod Bytes
pub mod ByteWrites
pub mod Areas
pub mod Ownership
pub mod Effect
pub mod Meaning
