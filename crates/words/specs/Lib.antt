-- The bits of words, and the search for a bit of a line.
pub mod Words
pub mod Laws
