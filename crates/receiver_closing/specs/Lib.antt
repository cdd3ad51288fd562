-- The definitions that the contracts of `closing` cite.
pub mod Written
