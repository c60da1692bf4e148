-- The program: its lines, and what it reads.
pub mod ForK
pub mod Input
pub mod Line
pub mod Output
pub mod Piecewise
pub mod Reading
pub mod Text
pub mod Written
pub mod Laws
