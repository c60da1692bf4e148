-- Laws that are cited, and need not be read to believe a promise.
pub mod Free
pub mod Growing
pub mod Tables
