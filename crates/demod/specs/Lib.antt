-- The definitions that the contracts of `demod` cite.
pub mod Decode
pub mod Capture
