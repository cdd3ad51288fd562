-- The laws of a record's calls of the tracker.
pub mod TurnLaws
