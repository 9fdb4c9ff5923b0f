pub mod ErrorStatus
