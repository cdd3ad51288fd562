-- The definitions that the contracts of `limits` cite.
pub mod Limits
pub mod Samples
pub mod Answer
pub mod Refusals
