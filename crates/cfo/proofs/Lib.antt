-- The laws that the proofs of `cfo` share.
pub mod Constants
pub mod Signs
pub mod Numbers
