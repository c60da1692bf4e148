-- Laws that several proofs of this crate use.
pub mod Misplaced
pub mod Named
pub mod Same
