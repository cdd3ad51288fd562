-- Runs of the port, and demand 3's theorem over them.
pub mod Runs
pub mod Theorem
pub mod Grown
pub mod Distances
pub mod TwoArms
