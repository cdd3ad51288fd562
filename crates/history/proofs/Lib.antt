-- Demand 3 of the port: buffers and states, one call, the theorem.
pub mod Buffers
pub mod States
pub mod Standing
pub mod Calls
pub mod Theorem
pub mod Example
pub mod Grown
pub mod Distances
pub mod DistancesExample
pub mod TwoArms
