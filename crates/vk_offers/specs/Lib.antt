pub mod IsOffers
pub mod IsHappenings
pub mod Laws
pub mod Inner
