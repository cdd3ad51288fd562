-- The laws that the proofs of `frequency` share.
pub mod Choices
pub mod Ordered
pub mod Held
pub mod Sampled
pub mod Tuned
pub mod Listened
pub mod Settled
pub mod Framing
pub mod Good
pub mod Grown
pub mod Contracts
