-- The definitions that the contracts of `bench_grip` cite.
pub mod Told
