-- Laws that several proofs of this crate use.
pub mod NodeFields
pub mod PolicyRuns
pub mod PolicySearch
