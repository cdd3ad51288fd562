-- The laws that the proofs of `bench_tracker` share.
pub mod TrackerLaws
