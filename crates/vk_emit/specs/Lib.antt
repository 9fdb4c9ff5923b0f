pub mod Steps
pub mod Programs
pub mod Plans
