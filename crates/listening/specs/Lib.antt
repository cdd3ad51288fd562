-- 01's program `listen` as a definition, and what the code has of it.
pub mod Program
pub mod Hand
pub mod Reads
pub mod Runs
