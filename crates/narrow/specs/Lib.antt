-- The closure of a narrow plane, on words.
pub mod Words
