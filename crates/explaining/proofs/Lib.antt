-- The laws that the proofs of `explaining` cite.
pub mod VerdictLaws
