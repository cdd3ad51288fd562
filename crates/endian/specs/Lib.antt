-- The definitions that the contracts of `endian` cite.
pub mod Bytes
