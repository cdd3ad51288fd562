-- Laws of the open messages.
pub mod WaitingLaws
