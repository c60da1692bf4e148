-- Laws that are cited, and need not be read to believe a promise.
pub mod Arriving
pub mod GoodRecords
pub mod RuleSets
pub mod SameSets
