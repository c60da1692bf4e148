-- What is so after a whole series of commands, and the starred cases of document 01.
pub mod Series
pub mod Theorem
pub mod Exactly
pub mod Existence
pub mod Sound
pub mod EvenPolicies
pub mod Starred
pub mod NoBounce
pub mod ThroughGroups
pub mod Stores
pub mod SeriesOfK
pub mod OldSwitches
pub mod Laws
