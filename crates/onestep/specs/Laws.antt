-- Laws that are cited, and need not be read to believe a promise.
pub mod Alike
pub mod AmongChosen
pub mod Bodies
pub mod Bounce
pub mod ByDirection
pub mod Chosen
pub mod CopiesInOrder
pub mod Elsewhere
pub mod GoodActions
pub mod GoodGroups
pub mod SameCopies
