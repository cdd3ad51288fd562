-- The laws that the proofs of `listening_lines` and of the crates above share.
pub mod TextLaws
pub mod LineLaws
