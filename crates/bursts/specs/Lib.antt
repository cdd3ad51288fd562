-- The definitions that the contracts of `bursts` cite.
pub mod Numbers
pub mod Levels
pub mod Bursts
pub mod Found
