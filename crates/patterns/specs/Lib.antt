-- What the code of patterns leaves.
pub mod Matched
pub mod Laws
