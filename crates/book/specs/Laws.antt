-- Laws that are cited, and need not be read to believe a promise.
pub mod Bounds
pub mod Bytes
pub mod Outcomes
pub mod Refusals
pub mod Store
