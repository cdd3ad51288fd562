-- The laws of `endian` (Numbers, Stores, Values) and worked examples (Vectors).
pub mod Numbers
pub mod Stores
pub mod Values
pub mod Vectors
