-- Walks over a relation.
pub mod Walk
pub mod Computed
pub mod Laws
