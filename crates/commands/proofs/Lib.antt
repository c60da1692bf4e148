-- Laws that several proofs of this crate use.
pub mod EffectInStore
pub mod FoundRule
pub mod RecordBytes
pub mod Named
