-- Laws that several proofs of this crate use.
pub mod RowJoins
pub mod Spans
