-- Laws that several proofs of this crate use.
pub mod InStore
pub mod MovedLayout
pub mod Promises
