-- The laws of what a call's records make `listen` print.
pub mod EmissionLaws
