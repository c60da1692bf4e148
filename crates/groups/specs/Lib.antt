-- What groups send.
pub mod ByPlace
pub mod BucketHeaders
pub mod Marks
pub mod Sent
pub mod Relayed
pub mod Laws
