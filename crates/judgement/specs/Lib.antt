-- When a network holds, and the verdict.
pub mod Computed
pub mod Computing
pub mod Model
pub mod Verdict
pub mod Judgement
pub mod LastNode
pub mod Choice
pub mod EvenPolicies
pub mod EvenExample
pub mod Laws
