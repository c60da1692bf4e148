-- The widths of a network.
pub mod Widths
pub mod WidthsTable
pub mod Laws
