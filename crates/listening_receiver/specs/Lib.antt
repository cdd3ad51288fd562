-- The definitions that the contracts of `listening_receiver` cite.
pub mod Hearing
pub mod Standing
