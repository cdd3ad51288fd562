-- The laws of `bench`.
pub mod Numbers
pub mod Told
