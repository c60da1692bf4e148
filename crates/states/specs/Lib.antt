-- The frames of packet states.
pub mod Frames
