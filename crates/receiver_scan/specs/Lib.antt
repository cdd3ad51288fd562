-- The definitions that the contracts of `scan` cite.
pub mod Midway
