-- The answers of the calls for C and Rust, and the version.
pub mod Code
pub mod Decoded
pub mod CodedSeries
pub mod CodeTable
pub mod Version
