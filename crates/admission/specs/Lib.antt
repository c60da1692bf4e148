-- The rows of a command, in code.
pub mod Admission
