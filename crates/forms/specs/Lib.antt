-- The forms in which the tests of a node stand.
pub mod Forms
pub mod Laws
