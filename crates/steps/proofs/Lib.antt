-- Laws that several proofs of this crate use.
pub mod ActingRules
pub mod NextStates
