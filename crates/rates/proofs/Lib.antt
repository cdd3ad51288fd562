-- The laws of `rates`: floats in general first, from Near to Tenths, then the numbers of specs/.
pub mod Near
pub mod Values
pub mod Opposed
pub mod Between
pub mod Short
pub mod Tenths
pub mod Rates
pub mod Lengths
pub mod Quantiles
pub mod Tracker
pub mod Later
pub mod Vectors
