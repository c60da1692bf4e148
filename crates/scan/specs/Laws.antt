-- Laws that are cited, and need not be read to believe a promise.
pub mod File
pub mod Layout
pub mod PassedRecords
