pub mod Evaluated
pub mod Laws
