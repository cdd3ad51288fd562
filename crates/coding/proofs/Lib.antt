-- The laws that the proofs of `coding` and of the crates above it cite.
pub mod Digits
pub mod Division
pub mod Quotient
pub mod BitLaws
pub mod Values
pub mod ByteLists
pub mod Codes
pub mod Causes
pub mod ByteLaws
