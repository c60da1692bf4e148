-- The check call and the command call: their promises are defined in `book`.
pub mod Judged
