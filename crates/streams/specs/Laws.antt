-- Laws that are cited, and need not be read to believe a promise.
pub mod Decimal
pub mod Piecewise
pub mod Reading
pub mod Store
pub mod Turns
pub mod WrittenLines
