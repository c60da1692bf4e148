-- Laws that are cited, and need not be read to believe a promise.
pub mod Applied
pub mod RulePlace
pub mod StillPasses
pub mod StoredRule
