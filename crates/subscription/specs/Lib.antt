-- The definitions that the contracts of `subscription` cite.
pub mod Charges
pub mod Counting
pub mod Claims
pub mod Parts
