-- Bits of a number, lists and tests, used throughout.
pub mod Bit
pub mod Tabulated
pub mod Lists
pub mod Below
pub mod Laws
