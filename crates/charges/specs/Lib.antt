-- The definitions that the contracts of `charges` cite.
pub mod Words
