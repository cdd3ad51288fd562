-- The definitions that the contracts of `bench_charges` cite.
pub mod Cents
