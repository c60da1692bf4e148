-- One step of a packet state.
pub mod Arrivals
pub mod Filled
