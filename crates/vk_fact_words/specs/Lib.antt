pub mod FactText
pub mod LinksText
