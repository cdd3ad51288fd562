-- The definitions that the contracts of `explaining` cite.
pub mod Margins
pub mod Verdicts
pub mod Taken
