-- The closure of one plane in another, by a search from each state.
pub mod Into
pub mod ApartTable
