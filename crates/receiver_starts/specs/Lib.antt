-- The definitions that the contracts of `starts` cite.
pub mod Starts
