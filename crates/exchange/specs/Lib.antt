-- A plane with X and Y exchanged.
pub mod Blocks
pub mod Swapped
