-- Laws that several proofs of this crate use.
pub mod EveryHeader
pub mod HeaderByHeader
pub mod LinkCrossings
pub mod LinksInStore
pub mod MarkedPoints
