-- The effect of a command on a network.
pub mod Effect
pub mod Laws
