-- The definitions that the contracts of `retain` cite.
pub mod Retain
