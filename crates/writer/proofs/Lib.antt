-- The laws of `writer`. RoundTrip proves the statements of specs/RoundTrip.antt, Contracts ties them to the contract, Example computes one.
pub mod Starts
pub mod Sent
pub mod Stores
pub mod WriteLaws
pub mod Places
pub mod RoundTrip
pub mod Contracts
pub mod Example
