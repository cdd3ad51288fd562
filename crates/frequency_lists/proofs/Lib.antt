-- The laws that the proofs of `lists` and of the crates above share.
pub mod Every
pub mod Reach
pub mod Lasts
pub mod Gather
pub mod Appending
pub mod Blocks
