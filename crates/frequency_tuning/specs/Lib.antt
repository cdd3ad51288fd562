-- The definitions that the contracts of `tuning` cite.
pub mod Steps
pub mod Ranges
