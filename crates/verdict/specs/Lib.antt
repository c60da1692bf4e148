-- The verdict on a network.
pub mod Judge
pub mod Laws
