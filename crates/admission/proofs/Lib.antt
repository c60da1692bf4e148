-- Laws that several proofs of this crate use.
pub mod CommandRows
pub mod InNetwork
