-- One step of a packet state.
pub mod Groups
pub mod Computing
pub mod Chosen
pub mod ByBytes
pub mod Departing
pub mod Actions
pub mod Wards
pub mod GroupWards
pub mod Step
pub mod NoBounce
pub mod StepsOfK
pub mod Table
pub mod GroupTable
pub mod Relayed
pub mod Flooding
pub mod Laws
