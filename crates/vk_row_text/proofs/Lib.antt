mod Joins
mod NamesApart
mod Telling
mod TellingBatches
