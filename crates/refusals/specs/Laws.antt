-- Laws that are cited, and need not be read to believe a promise.
pub mod Closed
pub mod Count
pub mod Edits
pub mod Fronts
pub mod Good
pub mod Links
pub mod Passing
pub mod Points
pub mod Running
pub mod Spread
