-- Laws that several proofs of this crate use.
pub mod LedRules
pub mod MatchedRules
pub mod PaintedLeads
pub mod Ranks
