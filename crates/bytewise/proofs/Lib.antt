-- The laws of `bytewise`. Agreement proves the statements of specs/Agreement.antt, Contracts ties them to the contract, Example computes some.
pub mod Walk
pub mod Turns
pub mod Causes
pub mod AnswerLaws
pub mod Agreement
pub mod Contracts
pub mod Example
