-- Lines of bits, and operations on them.
pub mod Shapes
pub mod Laws
