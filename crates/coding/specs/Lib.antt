-- The definitions that the contracts of `coding` cite.
pub mod Bits
pub mod Crc
pub mod Register
pub mod Convolution
pub mod Answers
