-- The laws that the proofs of `signal` share.
pub mod Indices
pub mod Hearing
pub mod Kept
pub mod Ranges
