-- Lemmas of tests.
mod DrawnPlaces
