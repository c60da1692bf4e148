-- The records of 24 bytes: packet states, fields, patterns, groups, policies, and network K.
pub mod Record
pub mod Group
pub mod Version
pub mod State
pub mod Pattern
pub mod Policy
pub mod Fields
pub mod Search
pub mod NetK
pub mod RuleA
pub mod PatternTable
pub mod VersionTable
pub mod StateTable
pub mod NodeTable
pub mod FieldsTable
pub mod Laws
