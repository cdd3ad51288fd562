-- The laws that the proofs of `measure` share.
pub mod Constants
pub mod Frames
pub mod Signed
pub mod Picked
