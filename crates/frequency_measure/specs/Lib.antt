-- The definitions that the contracts of `measure` cite.
pub mod Measured
pub mod Gathered
