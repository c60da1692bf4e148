-- Laws that are cited, and need not be read to believe a promise.
pub mod Acting
pub mod FirstState
pub mod Same
pub mod Tabled
