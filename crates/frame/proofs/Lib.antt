-- The laws that the proofs of `frame` and of the crates above it cite.
pub mod KindLaws
pub mod SpliceLaws
pub mod SizeLaws
pub mod CopyLaws
pub mod PlainLaws
pub mod RepairLaws
pub mod FieldLaws
pub mod PrefixLaws
pub mod SearchLaws
pub mod HeaderLaws
pub mod AnswerLaws
pub mod ControlLaws
pub mod PassedLaws
pub mod TypeLaws
