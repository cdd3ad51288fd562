-- Laws that the proofs of `closing` cite.
pub mod WrittenLaws
