-- The laws of `listen`: the definition's prefixes, one record, the records of a read.
pub mod Prefix
pub mod StepLaws
pub mod ReadLaws
pub mod BufferLaws
pub mod RunLaws
pub mod Contracts
