-- Laws that are cited, and need not be read to believe a promise.
pub mod BucketHeaders
pub mod GroupCopies
pub mod LentRuns
pub mod MarkedRuns
pub mod Marking
pub mod Running
pub mod SentCopies
pub mod StateBits
