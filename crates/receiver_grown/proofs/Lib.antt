-- Laws that the proofs of `receiver_grown` and its callers cite.
pub mod GrownLaws
