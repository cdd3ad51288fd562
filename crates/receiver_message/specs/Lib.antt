-- The definitions that the contracts of `message` cite.
pub mod Messages
