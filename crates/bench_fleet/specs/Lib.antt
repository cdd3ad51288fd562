-- The definitions that the contracts of `bench_fleet` cite.
pub mod Rows
