-- The check call and the command call: their answers, and what they leave.
pub mod Found
pub mod EvenPolicies
pub mod Answer
pub mod Check
pub mod Reference
pub mod Command
pub mod ByResult
pub mod AsAdd
pub mod Bytes
pub mod Laws
