-- The definitions that the contracts of `floats` cite.
pub mod Number
pub mod Floor
pub mod Fold
pub mod Trig
