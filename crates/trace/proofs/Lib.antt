-- Laws that several proofs of this crate use.
pub mod Drawing
pub mod Measuring
pub mod Reading
pub mod Rounds
pub mod StepPlane
