-- The laws that the proofs of `frequency_grown` share.
pub mod KnownLaws
pub mod RisingLaws
