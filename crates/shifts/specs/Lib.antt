-- The definitions that the contracts of `shifts` cite.
pub mod Shifts
pub mod Walk
