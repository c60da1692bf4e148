-- Laws that are cited, and need not be read to believe a promise.
pub mod PairBits
pub mod PlaneOfPairs
pub mod PointBits
