-- Routes: the route call's answer, and what it leaves.
pub mod Computed
pub mod Answer
pub mod Route
pub mod Distances
pub mod InNet
pub mod Call
pub mod Told
pub mod Example
pub mod Laws
