pub mod Scan
pub mod Turn
pub mod Laws
