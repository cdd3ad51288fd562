-- The definitions that the contracts of `clock` cite.
pub mod Numbers
pub mod Clock
pub mod Bits
pub mod Walk
pub mod Running
pub mod Tracked
