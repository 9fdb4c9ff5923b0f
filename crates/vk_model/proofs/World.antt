pub mod BytePlaces
