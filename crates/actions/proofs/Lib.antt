-- Laws that proofs of this crate use.
pub mod LoadedRuns
