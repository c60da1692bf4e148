-- Laws that belong to no one function.
pub mod WordLines
pub mod WordRounds
