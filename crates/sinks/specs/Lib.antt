-- What the search from a state leaves, and that from all states.
pub mod Turns
pub mod Laws
