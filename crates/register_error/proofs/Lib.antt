-- Laws behind the bound: floats below zero, order by keys, readings in 1,024ths, the 10 kHz filter, medians, frame 1; then the claims, the examples, the calls.
pub mod Negative
pub mod Keys
pub mod Products
pub mod Readings
pub mod Offsets
pub mod Medians
pub mod Frames
pub mod Bound
pub mod Examples
pub mod Calls
