-- Laws that belong to no one function.
pub mod Ending
pub mod Testing
