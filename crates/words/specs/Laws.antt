-- Laws that are cited, and need not be read to believe a promise.
pub mod Digits
pub mod Seeking
pub mod Sought
