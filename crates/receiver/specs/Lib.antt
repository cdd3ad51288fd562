-- The definitions that the contracts of `receiver` cite.
pub mod State
pub mod Calls
pub mod Running
