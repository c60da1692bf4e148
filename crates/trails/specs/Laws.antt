-- Laws that are cited, and need not be read to believe a promise.
pub mod Bounds
pub mod Cutting
pub mod Leading
pub mod Meant
pub mod Onward
pub mod Searching
