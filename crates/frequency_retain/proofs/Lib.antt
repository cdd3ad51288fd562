-- The laws that the proofs of `retain` share.
pub mod Retaining
pub mod Shifting
pub mod Retained
