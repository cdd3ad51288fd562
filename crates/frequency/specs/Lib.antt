-- The definitions that the contracts of `frequency` cite.
pub mod Tracker
pub mod Lent
pub mod Order
pub mod Calls
pub mod Waiting
pub mod Grown
