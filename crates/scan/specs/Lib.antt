-- Reading a network, record by record.
pub mod Layout
pub mod Reading
pub mod Stored
pub mod Laws
