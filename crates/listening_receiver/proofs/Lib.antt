-- The laws of the receiver's side of `listen`.
pub mod HearingLaws
