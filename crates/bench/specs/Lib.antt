-- The definitions that the contracts of `bench` cite.
pub mod Select
pub mod Demod
pub mod Writer
