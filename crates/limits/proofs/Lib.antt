pub mod Constants
pub mod Samples
pub mod AnswerLaws
pub mod Pairs
pub mod Causes
