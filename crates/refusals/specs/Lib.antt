-- The rows by which a call is refused.
pub mod Rows
pub mod Refusal
pub mod Numbers
pub mod Count
pub mod Ascending
pub mod Computing
pub mod RowTable
pub mod GroupRows
pub mod FullTable
pub mod Laws
