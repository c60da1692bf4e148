-- Laws that are cited, and need not be read to believe a promise.
pub mod Fields
pub mod Groups
pub mod Kinds
pub mod NamedGroups
pub mod Parts
pub mod Patterns
pub mod Policies
pub mod Records
pub mod States
