-- The choice of the rules that act.
pub mod RuleSets
pub mod Leads
pub mod Laws
