-- The definitions that the contracts of `record` cite.
pub mod Record
pub mod Decoding
pub mod Readers
pub mod Same
pub mod Spans
