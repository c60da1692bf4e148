-- What the actions of the rules that act send.
pub mod Acted
pub mod Laws
