-- The laws that the proofs of `record` and of the crates above it cite.
pub mod PartLaws
pub mod DecodingLaws
pub mod RecordLaws
pub mod JoinLaws
pub mod ReaderLaws
pub mod ReadBack
pub mod SameLaws
