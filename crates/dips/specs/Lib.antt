-- The definitions that the contracts of `dips` cite.
pub mod Numbers
pub mod Dips
pub mod Tested
pub mod Sequence
