-- The definitions that the contracts of `samples` cite.
pub mod Buffer
