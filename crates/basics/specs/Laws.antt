-- Laws that are cited, and need not be read to believe a promise.
pub mod Below
pub mod Bits
pub mod Every
pub mod Lists
pub mod Numbers
pub mod Shifts
pub mod Tabulated
pub mod Tested
pub mod Tests
