-- The definitions that the contracts of `signal` cite.
pub mod Seconds
pub mod Heard
pub mod Order
