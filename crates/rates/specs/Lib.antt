-- The definitions that the laws of `rates` are about.
pub mod Numbers
pub mod Rounding
pub mod Rates
