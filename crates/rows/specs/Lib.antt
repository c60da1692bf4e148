-- The rows by which a call is refused, and what a network has that rows 3 to 10 and 16 pass.
pub mod Found
pub mod Groups
pub mod Noted
pub mod Table
pub mod Laws
