-- The laws that the proofs of `tuning` share.
pub mod Constants
pub mod Ranks
